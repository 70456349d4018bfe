-- `reader::check` meets its contract: the head, and where that passes the bodies, one after the other.
use mathlib.Core.Path.{sym, ◌∙◌}
use Rattle.words.specs.Tables.{rows}
use Rattle.directives.specs.Fields.{head_fields, template_fields, array_fields, vertex_fields, edge_fields, fields, check40}
use Rattle.directives.specs.Layout.{templates, arrays, vertices, edges}
use Rattle.directives.proofs.Fields.{stops, goes_on}
use Rattle.directives.proofs.Limits.{limits, heads}
use Rattle.directives.proofs.reader.check.Goals as goal

pub new-laid-requires : goal.new-laid-requires
new-laid-requires c = rw c.of.ensures.value (heads _ (limits _ (sym c.check.ensures ∙ c.in_ok-check.was)))

pub returns-in_err-check : goal.returns-in_err-check
unfolding check40 fields
returns-in_err-check c =
    let file = c.args.file.now in
    stops file (head_fields file) _ c.check.ensures c.in_err-check.was c.from_residual.ensures

pub returns-in_err-check_templates : goal.returns-in_err-check_templates
unfolding check40 fields
returns-in_err-check_templates c =
    let file = c.args.file.now in
    goes_on file (head_fields file) _ c.check.ensures c.in_ok-check.was
    (stops file (rows (template_fields file) (templates file)) _ (rw (c.new-laid.ensures) at c.check_templates.ensures) c.in_err-check_templates.was c.from_residual-in_err-check_templates.ensures)

pub returns-in_err-check_all : goal.returns-in_err-check_all
unfolding check40 fields
returns-in_err-check_all c =
    let file = c.args.file.now in
    goes_on file (head_fields file) _ c.check.ensures c.in_ok-check.was
    (goes_on file (rows (template_fields file) (templates file)) _ (rw (c.new-laid.ensures) at c.check_templates.ensures) c.in_ok-check_templates.was
    (stops file (rows (array_fields file) (arrays file)) _ (rw (c.new-laid.ensures) at c.check_all.ensures) c.in_err-check_all.was c.from_residual-in_err-check_all.ensures))

pub returns-in_err-check_all-2 : goal.returns-in_err-check_all-2
unfolding check40 fields
returns-in_err-check_all-2 c =
    let file = c.args.file.now in
    goes_on file (head_fields file) _ c.check.ensures c.in_ok-check.was
    (goes_on file (rows (template_fields file) (templates file)) _ (rw (c.new-laid.ensures) at c.check_templates.ensures) c.in_ok-check_templates.was
    (goes_on file (rows (array_fields file) (arrays file)) _ (rw (c.new-laid.ensures) at c.check_all.ensures) c.in_ok-check_all.was
    (stops file (rows (vertex_fields file) (vertices file)) _ (rw (c.new-laid.ensures) at c.check_all-2.ensures) c.in_err-check_all-2.was c.from_residual-in_err-check_all-2.ensures)))

pub returns-in_err-check_all-3 : goal.returns-in_err-check_all-3
unfolding check40 fields
returns-in_err-check_all-3 c =
    let file = c.args.file.now in
    goes_on file (head_fields file) _ c.check.ensures c.in_ok-check.was
    (goes_on file (rows (template_fields file) (templates file)) _ (rw (c.new-laid.ensures) at c.check_templates.ensures) c.in_ok-check_templates.was
    (goes_on file (rows (array_fields file) (arrays file)) _ (rw (c.new-laid.ensures) at c.check_all.ensures) c.in_ok-check_all.was
    (goes_on file (rows (vertex_fields file) (vertices file)) _ (rw (c.new-laid.ensures) at c.check_all-2.ensures) c.in_ok-check_all-2.was
    (stops file (rows (edge_fields file) (edges file)) _ (rw (c.new-laid.ensures) at c.check_all-3.ensures) c.in_err-check_all-3.was c.from_residual-in_err-check_all-3.ensures))))

pub returns : goal.returns
unfolding check40 fields
returns c =
    let file = c.args.file.now in
    goes_on file (head_fields file) _ c.check.ensures c.in_ok-check.was
    (goes_on file (rows (template_fields file) (templates file)) _ (rw (c.new-laid.ensures) at c.check_templates.ensures) c.in_ok-check_templates.was
    (goes_on file (rows (array_fields file) (arrays file)) _ (rw (c.new-laid.ensures) at c.check_all.ensures) c.in_ok-check_all.was
    (goes_on file (rows (vertex_fields file) (vertices file)) _ (rw (c.new-laid.ensures) at c.check_all-2.ensures) c.in_ok-check_all-2.was
    (goes_on file (rows (edge_fields file) (edges file)) _ (rw (c.new-laid.ensures) at c.check_all-3.ensures) c.in_ok-check_all-3.was
    (rw (c.new-laid.ensures) at c.check_end.ensures)))))
