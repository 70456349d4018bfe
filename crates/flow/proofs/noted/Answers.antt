-- `flow::noted` meets its contract: a row is filled.
use mathlib.Core.Path.{refl, ap}
use lib.Bits.{bit_or}
use lib.ListN.{get_or}
use Rattle.sets.specs.Sets.{half_width}
use Rattle.sets.proofs.Laws.{minus-mask}
use Rattle.words.proofs.Filling.{fill_begin, fill_next, fill_end}
use Rattle.flow.proofs.noted.Goals as goal

pub loop-a-init : goal.loop-a-init
loop-a-init c = fill_begin _ refl

pub loop-a-preserved : goal.loop-a-preserved
loop-a-preserved c = fill_next c.loop-a.invariant c.loop-a-test.true (ap (bit_or (get_or c.args.note c.loop-a.a 0)) (minus-mask half_width _ _ c.loop-a-test.element_fits2.fits c.loop-a-test.element_fits3.fits))

pub returns : goal.returns
returns c = fill_end c.loop-a.invariant c.loop-a-test.false
