-- `check_writes` meets its contract: a scan of the vertices.
use native.Mathlib.Omega.{arith}
use Rattle.labels.specs.Checks.{check20}
use Rattle.refusal.proofs.Checks.{scan_start, scan_exit, scan_next, scan_done}
use Rattle.checks.proofs.check_writes.Goals as goal

pub loop-v-init : goal.loop-v-init
loop-v-init c = scan_start _ _

pub returns-in_err-check_writes_row : goal.returns-in_err-check_writes_row
unfolding check20
returns-in_err-check_writes_row c = scan_exit c.loop-v.invariant (omega arith) c.check_writes_row.ensures c.in_err-check_writes_row.was c.from_residual.ensures

pub loop-v-preserved : goal.loop-v-preserved
loop-v-preserved c = scan_next c.loop-v.invariant (omega arith) c.check_writes_row.ensures c.in_ok-check_writes_row.was

pub returns : goal.returns
unfolding check20
returns c = scan_done c.loop-v.invariant (omega arith)
