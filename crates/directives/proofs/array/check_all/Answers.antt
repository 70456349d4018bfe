-- `array::check_all` meets its contract: a scan of the arrays.
use mathlib.Core.Path.{sym, ◌∙◌}
use native.Mathlib.Omega.{arith}
use Rattle.refusal.proofs.Checks.{scan_start, scan_exit, scan_next, scan_done}
use Rattle.directives.specs.Fields.{array_fields}
use Rattle.directives.specs.Layout.{arrays}
use Rattle.directives.proofs.Fields.{order_rows}
use Rattle.directives.proofs.array.check_all.Goals as goal

pub loop-a-init : goal.loop-a-init
loop-a-init c = scan_start _ _

pub returns-in_err-check : goal.returns-in_err-check
returns-in_err-check c =
    let file = c.args.laid.now.bytes in
    scan_exit c.loop-a.invariant (omega arith) c.check.ensures c.in_err-check.was c.from_residual.ensures ∙ sym (order_rows file (array_fields file) (arrays file))

pub loop-a-preserved : goal.loop-a-preserved
loop-a-preserved c = scan_next c.loop-a.invariant (omega arith) c.check.ensures c.in_ok-check.was

pub returns : goal.returns
returns c =
    let file = c.args.laid.now.bytes in
    scan_done c.loop-a.invariant (omega arith) ∙ sym (order_rows file (array_fields file) (arrays file))
