-- `scan::any_from` meets its contract: a scan of the bytes.
use mathlib.Core.Path.{sym, ap, ◌∙◌}
use native.Mathlib.Nat.{le_antisymm}
use native.Mathlib.Omega.{arith}
use Rattle.words.proofs.Sums.{any_none, any_next}
use Rattle.words.specs.Sums.{any_below}
use Rattle.calls.proofs.scan.any_from.Goals as goal

pub loop-i-init : goal.loop-i-init
loop-i-init c = (omega arith, sym (any_none _))

pub loop-i-preserved : goal.loop-i-preserved
loop-i-preserved c = (omega arith, any_next _ c.loop-i.i c.loop-i.invariant.1 c.is_call-any.ensures)

pub returns : goal.returns
returns c = c.loop-i.invariant.1 ∙ ap (any_below _) (le_antisymm c.loop-i.invariant.0 c.loop-i-test.false)
