-- `writer::write_row` meets its contract. The invariant: the entries of the arrays before a are written, and `at` is how long these are.
use mathlib.Core.Path.{◌≡◌}
use lib.ListN.{length}
use Rattle.planbytes.specs.Plan.{label_entry}
use Rattle.routine.specs.Layout.{arrays}
use Rattle.words.specs.Tables.{rows}
use Rattle.words.proofs.Buffers.{Filled}
use Rattle.planbytes.proofs.writer.write_row.Given as goal

abbrev pub invariant-loop-a : goal.invariant-loop-a
invariant-loop-a l = Filled (λ a'. label_entry l.routine.bytes a' l.v) (arrays l.routine.bytes) l.initial.out l.a l.out × (l.at ≡ length (rows (λ a'. label_entry l.routine.bytes a' l.v) l.a))
