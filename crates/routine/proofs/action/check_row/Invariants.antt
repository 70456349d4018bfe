-- `check_row` meets its contract: a scan of the arrays that keeps the family of what it met.
use Rattle.routine.specs.Actions.{action_check}
use Rattle.routine.specs.Layout.{arrays}
use Rattle.refusal.proofs.Checks.{Undecided}
use Rattle.routine.proofs.Rows.{RowFamily}
use Rattle.routine.proofs.action.check_row.Given as goal

abbrev pub invariant-loop-a : goal.invariant-loop-a
invariant-loop-a l = Undecided (λ a'. action_check l.laid.bytes a' l.v) (arrays l.laid.bytes) l.a × RowFamily l.laid.bytes l.v l.a l.family
