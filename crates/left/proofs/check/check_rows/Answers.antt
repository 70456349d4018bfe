-- `check::check_rows` meets its contract: a scan of the vertices.
use Prim.Native.Nat.{◌<◌}
use native.Mathlib.Omega.{arith}
use Rattle.directives.specs.Layout.{vertices}
use Rattle.mappings.specs.Computed.{check42}
use Rattle.refusal.proofs.Checks.{scan_start, scan_exit, scan_next, scan_done}
use Rattle.refusal.specs.Faults.{first_fault}
use Rattle.left.proofs.check.check_rows.Goals as goal
use Rattle.left.proofs.check.check_rows.Goals.{In-loop-v}

-- what holds in a turn
module _ (c : In-loop-v) where
  in_v : c.loop-v.v < vertices c.args.directives.now.bytes
  in_v = omega (arith, c.vertices-v-end.ensures)

pub loop-v-init : goal.loop-v-init
loop-v-init c = scan_start _ _

pub check_row-requires : goal.check_row-requires
check_row-requires c =
    record {
      v_bound = in_v c;
      given = c.requires.given;
      array_cells = c.requires.array_cells;
    }

pub returns-in_err-check_row : goal.returns-in_err-check_row
unfolding check42 first_fault
returns-in_err-check_row c = scan_exit c.loop-v.invariant (in_v (goal.at.returns-in_err-check_row c).In-loop-v) c.check_row.ensures c.in_err-check_row.was c.from_residual.ensures

pub loop-v-preserved : goal.loop-v-preserved
loop-v-preserved c = scan_next c.loop-v.invariant (in_v (goal.at.loop-v-preserved c).In-loop-v) c.check_row.ensures c.in_ok-check_row.was

pub returns : goal.returns
unfolding check42 first_fault
returns c = scan_done c.loop-v.invariant (omega (arith, c.vertices-v-end.ensures))
