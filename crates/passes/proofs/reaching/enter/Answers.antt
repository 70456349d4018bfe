-- `reaching::enter` meets its contract: a row is replaced.
use native.Mathlib.Omega.{arith}
use Rattle.words.proofs.Replaced.{replacing_begin, replacing_next, replacing_end}
use Rattle.passes.proofs.reaching.enter.Goals as goal

pub loop-a-init : goal.loop-a-init
loop-a-init c = replacing_begin _ _ _ _

pub loop-a-preserved : goal.loop-a-preserved
loop-a-preserved c = replacing_next c.loop-a.invariant (omega (arith, c.arrays-a-end.ensures)) (omega arith) c.at_entry.ensures

pub returns : goal.returns
returns c = replacing_end c.loop-a.invariant (omega (arith, c.arrays-a-end.ensures))
