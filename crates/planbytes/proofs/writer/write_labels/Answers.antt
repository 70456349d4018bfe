-- `writer::write_labels` meets its contract. The invariant: the rows of the vertices before v are written, and `at` is how long these are.
use mathlib.Core.Path.{refl}
use native.Mathlib.Omega.{arith}
use Rattle.planbytes.specs.Plan.{labels}
use Rattle.words.specs.Tables.{rows}
use Rattle.words.proofs.Buffers.{begin, end, lent, next_row, onward}
use Rattle.planbytes.proofs.writer.write_labels.Goals as goal

pub loop-v-init : goal.loop-v-init
unfolding rows labels
loop-v-init c = (begin _ _ _ c.requires.file_in_bounds, refl)

pub write_row-at-requires-clause-v_in_bounds : goal.write_row-at-requires-clause-v_in_bounds
write_row-at-requires-clause-v_in_bounds c = lent c.loop-v.invariant.0 c.loop-v.invariant.1 (omega arith)

pub loop-v-preserved : goal.loop-v-preserved
loop-v-preserved c = (
  next_row c.loop-v.invariant.0 c.loop-v.invariant.1 (omega arith) c.write_row-at.ensures.out_after,
  onward c.loop-v.invariant.0 c.loop-v.invariant.1 c.write_row-at.ensures.value,
)

pub returns : goal.returns
unfolding labels
returns c = end c.loop-v.invariant.0 (omega arith)
