-- `spreads::fill_row` meets its contract: two rows are replaced.
use Prim.Native.Nat.{◌*◌}
use Rattle.words.proofs.Replaced.{Replacing}
use Rattle.brought.specs.Cells.{spread_gives, spread_halves}
use Rattle.brought.proofs.spreads.fill_row.Given as goal

abbrev pub invariant-loop-c : goal.invariant-loop-c
invariant-loop-c l = Replacing l.initial.gives (8 * l.v) (λ b. spread_gives l.directives.bytes l.t b l.v) 8 l.gives l.c
    × Replacing l.initial.passes (8 * l.v) (λ b. spread_halves l.directives.bytes l.t l.v) 8 l.passes l.c
