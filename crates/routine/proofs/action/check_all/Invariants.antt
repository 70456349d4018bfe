-- `action::check_all` meets its contract: a scan of the rows.
use Rattle.routine.specs.Actions.{row_check}
use Rattle.routine.specs.Layout.{vertices}
use Rattle.refusal.proofs.Checks.{Undecided}
use Rattle.routine.proofs.action.check_all.Given as goal

abbrev pub invariant-loop-v : goal.invariant-loop-v
invariant-loop-v l = Undecided (row_check l.laid.bytes) (vertices l.laid.bytes) l.v
