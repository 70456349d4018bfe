-- `spreads::fill` meets its contract: row after row both tables are filled.
use mathlib.Core.List.{List}
use Prim.Native.Nat.{ℕ, ◌≤◌}
use Rattle.flow.specs.Cells.{Cells}
use Rattle.flow.proofs.Cells.{rows_to}
use Rattle.directives.specs.Layout.{vertices}
use Rattle.brought.specs.Cells.{spread_gives, spread_halves}
use Rattle.brought.proofs.spreads.fill.Given as goal

-- what the cell of column c and vertex v is to hold
abbrev pub gives_at : List ℕ → ℕ → ℕ → ℕ → ℕ
gives_at file t c v = spread_gives file t c v

abbrev pub passes_at : List ℕ → ℕ → ℕ → ℕ → ℕ
passes_at file t c v = spread_halves file t v

abbrev pub invariant-loop-v : goal.invariant-loop-v
invariant-loop-v l = (l.v ≤ l.v-end)
    × Cells 8 (vertices l.directives.bytes) (rows_to (gives_at l.directives.bytes l.t) l.initial.gives l.v) l.gives
    × Cells 8 (vertices l.directives.bytes) (rows_to (passes_at l.directives.bytes l.t) l.initial.passes l.v) l.passes
