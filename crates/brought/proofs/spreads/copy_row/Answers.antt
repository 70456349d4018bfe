-- `spreads::copy_row` meets its contract: a row is replaced.
use mathlib.Core.Path.{refl}
use Rattle.words.proofs.Replaced.{replacing_begin, replacing_next, replacing_end}
use Rattle.brought.proofs.spreads.copy_row.Goals as goal

pub loop-c-init : goal.loop-c-init
loop-c-init c = replacing_begin _ _ _ _

pub loop-c-preserved : goal.loop-c-preserved
loop-c-preserved c = replacing_next c.loop-c.invariant c.loop-c-test.true refl refl

pub shape_of-spreads : goal.shape_of-spreads
shape_of-spreads c = c.loop-c.invariant.sized

pub returns : goal.returns
returns c = replacing_end c.loop-c.invariant c.loop-c-test.false
