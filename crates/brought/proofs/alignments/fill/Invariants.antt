-- `alignments::fill` meets its contract: row after row both tables are filled.
use Prim.Native.Nat.{◌≤◌}
use Rattle.flow.specs.Cells.{NoneBeyond}
use Rattle.flow.proofs.Cells.{rows_to}
use Rattle.directives.specs.Layout.{arrays, vertices}
use Rattle.mappings.specs.Tables.{ArrayCells}
use Rattle.brought.specs.Cells.{align_gives, align_passes}
use Rattle.brought.proofs.alignments.fill.Given as goal

abbrev pub invariant-loop-v : goal.invariant-loop-v
invariant-loop-v l = (l.v ≤ l.v-end) × ArrayCells l.directives.bytes (rows_to (align_gives l.directives.bytes) l.initial.gives l.v) l.gives × ArrayCells l.directives.bytes (rows_to (align_passes l.directives.bytes) l.initial.passes l.v) l.passes
    × NoneBeyond (arrays l.directives.bytes) (vertices l.directives.bytes) l.gives
