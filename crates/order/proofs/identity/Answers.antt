-- `order::identity` meets its contract: a table is filled.
use mathlib.Core.Path.{refl}
use Rattle.words.proofs.Filling.{fill_begin, fill_length, fill_next, fill_end}
use Rattle.order.proofs.identity.Goals as goal

pub loop-j-init : goal.loop-j-init
loop-j-init c = fill_begin _ refl

pub loop-j-preserved : goal.loop-j-preserved
loop-j-preserved c = fill_next c.loop-j.invariant c.loop-j-test.true refl

pub shape_of-t : goal.shape_of-t
shape_of-t c = fill_length c.loop-j.invariant

pub returns : goal.returns
returns c = fill_end c.loop-j.invariant c.loop-j-test.false
