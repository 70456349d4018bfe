-- `writer::write_labels` meets its contract. The invariant: the rows of the vertices before v are written, and `at` is how long these are.
use mathlib.Core.Path.{◌≡◌}
use lib.ListN.{length}
use Rattle.planbytes.specs.Plan.{label_row}
use Rattle.routine.specs.Layout.{vertices}
use Rattle.words.specs.Tables.{rows}
use Rattle.words.proofs.Buffers.{Filled}
use Rattle.planbytes.proofs.writer.write_labels.Given as goal

abbrev pub invariant-loop-v : goal.invariant-loop-v
invariant-loop-v l = Filled (label_row l.routine.bytes) (vertices l.routine.bytes) l.initial.out l.v l.out × (l.at ≡ length (rows (label_row l.routine.bytes) l.v))
