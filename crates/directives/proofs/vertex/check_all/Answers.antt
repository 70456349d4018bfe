-- `vertex::check_all` meets its contract: a scan of the vertices.
use mathlib.Core.Path.{sym, ◌∙◌}
use native.Mathlib.Omega.{arith}
use Rattle.refusal.proofs.Checks.{scan_start, scan_exit, scan_next, scan_done}
use Rattle.directives.specs.Fields.{vertex_fields}
use Rattle.directives.specs.Layout.{vertices}
use Rattle.directives.proofs.Fields.{order_rows}
use Rattle.directives.proofs.vertex.check_all.Goals as goal

pub loop-v-init : goal.loop-v-init
loop-v-init c = scan_start _ _

pub returns-in_err-check : goal.returns-in_err-check
returns-in_err-check c =
    let file = c.args.laid.now.bytes in
    scan_exit c.loop-v.invariant (omega arith) c.check.ensures c.in_err-check.was c.from_residual.ensures ∙ sym (order_rows file (vertex_fields file) (vertices file))

pub loop-v-preserved : goal.loop-v-preserved
loop-v-preserved c = scan_next c.loop-v.invariant (omega arith) c.check.ensures c.in_ok-check.was

pub returns : goal.returns
returns c =
    let file = c.args.laid.now.bytes in
    scan_done c.loop-v.invariant (omega arith) ∙ sym (order_rows file (vertex_fields file) (vertices file))
