-- `action::check_all` meets its contract: a scan of the rows.
use native.Mathlib.Omega.{arith}
use Rattle.routine.specs.Actions.{actions_check}
use Rattle.refusal.proofs.Checks.{scan_start, scan_exit, scan_next, scan_done}
use Rattle.routine.proofs.Faults.{four_faults}
use Rattle.routine.proofs.action.check_all.Goals as goal

pub loop-v-init : goal.loop-v-init
loop-v-init c = scan_start _ _

pub returns-in_err-check_row : goal.returns-in_err-check_row
unfolding actions_check
returns-in_err-check_row c =
    record {
      value = scan_exit c.loop-v.invariant (omega arith) c.check_row.ensures c.in_err-check_row.was c.from_residual.ensures;
      four_faults = four_faults _;
    }

pub loop-v-preserved : goal.loop-v-preserved
loop-v-preserved c = scan_next c.loop-v.invariant (omega arith) c.check_row.ensures c.in_ok-check_row.was

pub returns : goal.returns
unfolding actions_check
returns c =
    record {
      value = scan_done c.loop-v.invariant (omega arith);
      four_faults = four_faults _;
    }
