-- `references::replace` meets its contract: bytes are replaced one after the other.
use mathlib.Core.Path.{refl}
use Rattle.words.proofs.Replaced.{replacing_begin, replacing_next, replacing_end}
use Rattle.calls.proofs.references.replace.Goals as goal

pub loop-i-init : goal.loop-i-init
loop-i-init c = replacing_begin _ _ _ _

pub loop-i-preserved : goal.loop-i-preserved
loop-i-preserved c = replacing_next c.loop-i.invariant c.loop-i-test.true refl c.referring_byte.ensures

pub shape_of-out : goal.shape_of-out
shape_of-out c = c.loop-i.invariant.sized

pub returns : goal.returns
returns c = replacing_end c.loop-i.invariant c.loop-i-test.false
