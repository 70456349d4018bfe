-- `entered::one_unmarked` meets its contract: a scan of the marks.
use mathlib.Core.Path.{refl, sym, ap, ◌∙◌}
use native.Mathlib.Nat.{le_antisymm}
use native.Mathlib.Omega.{arith}
use lib.Dec.{eqb}
use lib.ListN.{get_or}
use Rattle.words.proofs.Sums.{any_none, any_next}
use Rattle.words.specs.Sums.{any_below}
use Rattle.passes.proofs.entered.one_unmarked.Goals as goal

pub loop-v-init : goal.loop-v-init
loop-v-init c = (omega arith, sym (any_none _))

pub loop-v-preserved : goal.loop-v-preserved
loop-v-preserved c = (omega arith, any_next (λ u. eqb (get_or c.args.marks.now u 0) 0) c.loop-v.v c.loop-v.invariant.1 refl)

pub returns : goal.returns
returns c = c.loop-v.invariant.1 ∙ ap (any_below _) (le_antisymm c.loop-v.invariant.0 c.loop-v-test.false)
