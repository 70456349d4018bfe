-- `check_templates` meets its contract: a scan of the templates.
use mathlib.Core.Path.{sym, ◌∙◌}
use native.Mathlib.Omega.{arith}
use Rattle.refusal.proofs.Checks.{scan_start, scan_exit, scan_next, scan_done}
use Rattle.directives.specs.Fields.{template_fields}
use Rattle.directives.specs.Layout.{templates}
use Rattle.directives.proofs.Fields.{order_rows}
use Rattle.directives.proofs.spread.check_templates.Goals as goal

pub loop-t-init : goal.loop-t-init
loop-t-init c = scan_start _ _

pub overflow_mul-t : goal.overflow_mul-t
overflow_mul-t c = omega (arith, c.templates-t-end.ensures, c.args.laid.now.limits)

pub overflow_add-t : goal.overflow_add-t
overflow_add-t c = omega (arith, c.templates-t-end.ensures, c.args.laid.now.limits)

pub check-requires : goal.check-requires
check-requires c = omega (arith, c.templates-t-end.ensures, c.args.laid.now.limits)

pub returns-in_err-check : goal.returns-in_err-check
returns-in_err-check c =
    let file = c.args.laid.now.bytes in
    scan_exit c.loop-t.invariant (omega arith) (rw (c.bytes.ensures) at c.check.ensures) c.in_err-check.was c.from_residual.ensures ∙ sym (order_rows file (template_fields file) (templates file))

pub loop-t-preserved : goal.loop-t-preserved
loop-t-preserved c = scan_next c.loop-t.invariant (omega arith) (rw (c.bytes.ensures) at c.check.ensures) c.in_ok-check.was

pub returns : goal.returns
returns c =
    let file = c.args.laid.now.bytes in
    scan_done c.loop-t.invariant (omega arith) ∙ sym (order_rows file (template_fields file) (templates file))
