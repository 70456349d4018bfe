-- `alignments::fill_row` meets its contract: two rows are replaced.
use Prim.Native.Nat.{◌*◌}
use Rattle.words.proofs.Replaced.{Replacing}
use Rattle.directives.specs.Layout.{arrays}
use Rattle.brought.specs.Cells.{align_gives, align_passes}
use Rattle.brought.proofs.alignments.fill_row.Given as goal

abbrev pub invariant-loop-a : goal.invariant-loop-a
invariant-loop-a l = Replacing l.initial.gives (8 * l.v) (λ b. align_gives l.directives.bytes b l.v) (arrays l.directives.bytes) l.gives l.a
    × Replacing l.initial.passes (8 * l.v) (λ b. align_passes l.directives.bytes b l.v) (arrays l.directives.bytes) l.passes l.a
