-- `array::check_all` meets its contract: a scan of the arrays.
use native.Mathlib.Omega.{arith}
use Rattle.routine.specs.Arrays.{check14}
use Rattle.refusal.proofs.Checks.{scan_start, scan_exit, scan_next, scan_done}
use Rattle.routine.proofs.array.check_all.Goals as goal

pub loop-a-init : goal.loop-a-init
loop-a-init c = scan_start _ _

pub returns-in_err-check : goal.returns-in_err-check
unfolding check14
returns-in_err-check c = scan_exit c.loop-a.invariant (omega arith) c.check.ensures c.in_err-check.was c.from_residual.ensures

pub loop-a-preserved : goal.loop-a-preserved
loop-a-preserved c = scan_next c.loop-a.invariant (omega arith) c.check.ensures c.in_ok-check.was

pub returns : goal.returns
unfolding check14
returns c = scan_done c.loop-a.invariant (omega arith)
