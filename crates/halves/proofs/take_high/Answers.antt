-- `halves::take_high` meets its contract: a table is filled.
use native.Mathlib.Omega.{arith}
use Rattle.words.proofs.Filling.{fill_begin, fill_next, fill_end}
use Rattle.halves.proofs.take_high.Goals as goal

pub loop-i-init : goal.loop-i-init
loop-i-init c = fill_begin _ (omega arith)

pub loop-i-preserved : goal.loop-i-preserved
loop-i-preserved c = fill_next c.loop-i.invariant c.loop-i-test.true c.high_half.ensures

pub returns : goal.returns
returns c = fill_end c.loop-i.invariant c.loop-i-test.false
