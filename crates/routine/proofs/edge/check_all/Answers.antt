-- `edge::check_all` meets its contract: a scan of the edges.
use native.Mathlib.Omega.{arith}
use Rattle.routine.specs.Edges.{check16}
use Rattle.refusal.proofs.Checks.{scan_start, scan_exit, scan_next, scan_done}
use Rattle.routine.proofs.edge.check_all.Goals as goal

pub loop-i-init : goal.loop-i-init
loop-i-init c = scan_start _ _

pub returns-in_err-check : goal.returns-in_err-check
unfolding check16
returns-in_err-check c = scan_exit c.loop-i.invariant (omega arith) c.check.ensures c.in_err-check.was c.from_residual.ensures

pub loop-i-preserved : goal.loop-i-preserved
loop-i-preserved c = scan_next c.loop-i.invariant (omega arith) c.check.ensures c.in_ok-check.was

pub returns : goal.returns
unfolding check16
returns c = scan_done c.loop-i.invariant (omega arith)
