-- `row_writes` meets its contract: a scan of the columns.
use mathlib.Core.Path.{sym, ap, ◌∙◌}
use native.Mathlib.Nat.{le_antisymm}
use native.Mathlib.Omega.{arith}
use Rattle.words.specs.Sums.{any_below}
use Rattle.words.proofs.Sums.{any_none, any_next}
use Rattle.checks.proofs.row_writes.Goals as goal

pub loop-a-init : goal.loop-a-init
loop-a-init c = (omega arith, sym (any_none _))

pub loop-a-preserved : goal.loop-a-preserved
loop-a-preserved c = (omega arith, any_next _ c.loop-a.a c.loop-a.invariant.1 c.is_write-any.ensures)

pub returns : goal.returns
returns c = c.loop-a.invariant.1 ∙ ap (any_below _) (le_antisymm c.loop-a.invariant.0 c.loop-a-test.false)
