-- `fill` meets its contract: a table is filled.
use native.Mathlib.Omega.{arith}
use Rattle.words.proofs.Filling.{fill_begin, fill_length, fill_next, fill_end}
use Rattle.report.proofs.fill.Goals as goal

pub loop-v-init : goal.loop-v-init
loop-v-init c = fill_begin _ (omega arith)

pub bounds-counts-v : goal.bounds-counts-v
bounds-counts-v c = omega (arith, fill_length c.loop-v.invariant)

pub loop-v-preserved : goal.loop-v-preserved
loop-v-preserved c = fill_next c.loop-v.invariant (omega arith) c.references_at.ensures.value

pub shape_of-counts : goal.shape_of-counts
shape_of-counts c = omega (arith, fill_length c.loop-v.invariant)

pub returns : goal.returns
returns c = fill_end c.loop-v.invariant (omega arith)
