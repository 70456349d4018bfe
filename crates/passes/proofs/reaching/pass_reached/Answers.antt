-- `reaching::pass_reached` meets its contract: a table is filled.
use mathlib.Core.Path.{refl}
use Rattle.words.proofs.Filling.{fill_begin, fill_next, fill_end}
use Rattle.passes.proofs.reaching.pass_reached.Goals as goal

pub loop-i-init : goal.loop-i-init
loop-i-init c = fill_begin _ refl

pub loop-i-preserved : goal.loop-i-preserved
loop-i-preserved c = fill_next c.loop-i.invariant c.loop-i-test.true refl

pub returns : goal.returns
returns c = fill_end c.loop-i.invariant c.loop-i-test.false
