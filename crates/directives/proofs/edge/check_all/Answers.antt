-- `edge::check_all` meets its contract: a scan of the edges.
use mathlib.Core.Path.{sym, ◌∙◌}
use native.Mathlib.Omega.{arith}
use Rattle.refusal.proofs.Checks.{scan_start, scan_exit, scan_next, scan_done}
use Rattle.directives.specs.Fields.{edge_fields}
use Rattle.directives.specs.Layout.{edges}
use Rattle.directives.proofs.Fields.{order_rows}
use Rattle.directives.proofs.edge.check_all.Goals as goal

pub loop-i-init : goal.loop-i-init
loop-i-init c = scan_start _ _

pub returns-in_err-check : goal.returns-in_err-check
returns-in_err-check c =
    let file = c.args.laid.now.bytes in
    scan_exit c.loop-i.invariant (omega arith) c.check.ensures c.in_err-check.was c.from_residual.ensures ∙ sym (order_rows file (edge_fields file) (edges file))

pub loop-i-preserved : goal.loop-i-preserved
loop-i-preserved c = scan_next c.loop-i.invariant (omega arith) c.check.ensures c.in_ok-check.was

pub returns : goal.returns
returns c =
    let file = c.args.laid.now.bytes in
    scan_done c.loop-i.invariant (omega arith) ∙ sym (order_rows file (edge_fields file) (edges file))
