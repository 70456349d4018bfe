-- `spread::check` meets its contract: two dimensions.
use Rattle.directives.specs.Fields.{dimension_fields, spread_fields}
use Rattle.directives.proofs.Fields.{stops, goes_on}
use Rattle.directives.proofs.spread.check.Goals as goal

pub returns-in_err-check_dimension : goal.returns-in_err-check_dimension
unfolding spread_fields
returns-in_err-check_dimension c =
    let a = c.args in
    let file = a.file.now in
    stops file (dimension_fields file a.highest a.at) _ c.check_dimension.ensures c.in_err-check_dimension.was c.from_residual.ensures

pub returns : goal.returns
unfolding spread_fields
returns c =
    let a = c.args in
    let file = a.file.now in
    goes_on file (dimension_fields file a.highest a.at) _ c.check_dimension.ensures c.in_ok-check_dimension.was
    (c.check_dimension-2.ensures)
