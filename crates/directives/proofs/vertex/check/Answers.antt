-- `vertex::check` meets its contract: the directive, its spread, the references.
use Rattle.directives.specs.Fields.{dimension_fields, spread_fields, directive_fields, given_fields, vertex_fields}
use Rattle.directives.proofs.Fields.{stops, goes_on}
use Rattle.directives.proofs.vertex.check.Goals as goal

pub returns-in_err-check_directive : goal.returns-in_err-check_directive
unfolding vertex_fields spread_fields dimension_fields
returns-in_err-check_directive c =
    let a = c.args in
    let file = a.laid.now.bytes in
    stops file (directive_fields file a.v) _ c.check_directive.ensures c.in_err-check_directive.was c.from_residual.ensures

pub returns-in_err-check_given : goal.returns-in_err-check_given
unfolding vertex_fields spread_fields dimension_fields
returns-in_err-check_given c =
    let a = c.args in
    let file = a.laid.now.bytes in
    goes_on file (directive_fields file a.v) _ c.check_directive.ensures c.in_ok-check_directive.was
    (stops file (given_fields file a.v) _ c.check_given.ensures c.in_err-check_given.was c.from_residual-in_err-check_given.ensures)

pub returns : goal.returns
unfolding vertex_fields spread_fields dimension_fields
returns c =
    let a = c.args in
    let file = a.laid.now.bytes in
    goes_on file (directive_fields file a.v) _ c.check_directive.ensures c.in_ok-check_directive.was
    (goes_on file (given_fields file a.v) _ c.check_given.ensures c.in_ok-check_given.was
    (c.check_references.ensures))
