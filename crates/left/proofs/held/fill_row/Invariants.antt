-- `held::fill_row` meets its contract: two rows are replaced.
use Prim.Native.Nat.{◌+◌, ◌*◌}
use lib.ListN.{get_or}
use Rattle.words.proofs.Replaced.{Replacing}
use Rattle.directives.specs.Layout.{arrays}
use Rattle.left.specs.Cells.{held_gives, held_halves}
use Rattle.left.proofs.held.fill_row.Given as goal

abbrev pub invariant-loop-a : goal.invariant-loop-a
invariant-loop-a l = Replacing l.initial.gives (8 * l.v) (λ b. held_gives l.directives.bytes l.t b l.v (get_or l.given (8 * l.v + b) 0)) (arrays l.directives.bytes) l.gives l.a
    × Replacing l.initial.passes (8 * l.v) (λ b. held_halves l.directives.bytes l.t b l.v) (arrays l.directives.bytes) l.passes l.a
