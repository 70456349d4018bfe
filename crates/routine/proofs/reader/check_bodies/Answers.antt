-- `check_bodies` meets its contract: checks of arrays, actions and edges in a row.
use Rattle.routine.specs.Reader.{body_check}
use Rattle.refusal.proofs.Checks.{exit_fails, passes}
use Rattle.routine.proofs.reader.check_bodies.Goals as goal

pub returns-in_err-check_all : goal.returns-in_err-check_all
unfolding body_check
returns-in_err-check_all c = exit_fails _ c.check_all.ensures c.in_err-check_all.was c.from_residual.ensures

pub returns-in_err-check_all-2 : goal.returns-in_err-check_all-2
unfolding body_check
returns-in_err-check_all-2 c = passes c.check_all.ensures c.in_ok-check_all.was (exit_fails _ c.check_all-2.ensures.value c.in_err-check_all-2.was c.from_residual-in_err-check_all-2.ensures)

pub returns : goal.returns
unfolding body_check
returns c = passes c.check_all.ensures c.in_ok-check_all.was (passes c.check_all-2.ensures.value c.in_ok-check_all-2.was c.check_all-3.ensures)
