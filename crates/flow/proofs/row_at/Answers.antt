-- `flow::row_at` meets its contract: a row is filled.
use mathlib.Core.Path.{refl}
use Rattle.words.proofs.Filling.{fill_begin, fill_next, fill_end}
use Rattle.flow.proofs.row_at.Goals as goal

pub loop-a-init : goal.loop-a-init
loop-a-init c = fill_begin _ refl

pub loop-a-preserved : goal.loop-a-preserved
loop-a-preserved c = fill_next c.loop-a.invariant c.loop-a-test.true refl

pub returns : goal.returns
returns c = fill_end c.loop-a.invariant c.loop-a-test.false
