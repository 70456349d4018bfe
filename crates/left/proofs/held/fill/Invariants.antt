-- `held::fill` meets its contract: row after row both tables are filled.
use mathlib.Core.List.{List}
use Prim.Native.Nat.{ℕ, ◌+◌, ◌*◌}
use lib.ListN.{get_or}
use Rattle.flow.specs.Cells.{NoneBeyond}
use Rattle.flow.proofs.Cells.{rows_to}
use Rattle.directives.specs.Layout.{arrays, vertices}
use Rattle.mappings.specs.Tables.{ArrayCells}
use Rattle.left.specs.Cells.{held_gives, held_halves}
use Rattle.left.proofs.held.fill.Given as goal

-- what the cell of array a and vertex v gives
abbrev pub gives_at : List ℕ → ℕ → List ℕ → ℕ → ℕ → ℕ
gives_at file t given a v = held_gives file t a v (get_or given (8 * v + a) 0)

abbrev pub invariant-loop-v : goal.invariant-loop-v
invariant-loop-v l = ArrayCells l.directives.bytes (rows_to (gives_at l.directives.bytes l.t l.given) l.initial.gives l.v) l.gives × ArrayCells l.directives.bytes (rows_to (held_halves l.directives.bytes l.t) l.initial.passes l.v) l.passes
    × NoneBeyond (arrays l.directives.bytes) (vertices l.directives.bytes) l.gives × NoneBeyond (arrays l.directives.bytes) (vertices l.directives.bytes) l.passes
