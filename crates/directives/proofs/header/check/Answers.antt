-- `header::check` meets its contract: mark and edition, then the four bodies.
use Rattle.directives.specs.Fields.{mark_fields, head_fields}
use Rattle.directives.proofs.Fields.{stops, goes_on}
use Rattle.directives.proofs.header.check.Goals as goal

pub returns-in_err-check_mark : goal.returns-in_err-check_mark
unfolding head_fields
returns-in_err-check_mark c =
    let file = c.args.file.now in
    stops file (mark_fields file) _ c.check_mark.ensures c.in_err-check_mark.was c.from_residual.ensures

pub returns-in_err-check_contents : goal.returns-in_err-check_contents
unfolding head_fields
returns-in_err-check_contents c =
    let file = c.args.file.now in
    goes_on file (mark_fields file) _ c.check_mark.ensures c.in_ok-check_mark.was
    (stops file _ _ c.check_contents.ensures c.in_err-check_contents.was c.from_residual-in_err-check_contents.ensures)

pub returns-in_err-check_contents-2 : goal.returns-in_err-check_contents-2
unfolding head_fields
returns-in_err-check_contents-2 c =
    let file = c.args.file.now in
    let second = rw (c.arrays_at.ensures, c.of-h.ensures.value) at c.check_contents-2.ensures in
    goes_on file (mark_fields file) _ c.check_mark.ensures c.in_ok-check_mark.was
    (goes_on file _ _ c.check_contents.ensures c.in_ok-check_contents.was
    (stops file _ _ second c.in_err-check_contents-2.was c.from_residual-in_err-check_contents-2.ensures))

pub returns-in_err-check_contents-3 : goal.returns-in_err-check_contents-3
unfolding head_fields
returns-in_err-check_contents-3 c =
    let file = c.args.file.now in
    let second = rw (c.arrays_at.ensures, c.of-h.ensures.value) at c.check_contents-2.ensures in
    let third = rw (c.vertices_at.ensures, c.of-h.ensures.value) at c.check_contents-3.ensures in
    goes_on file (mark_fields file) _ c.check_mark.ensures c.in_ok-check_mark.was
    (goes_on file _ _ c.check_contents.ensures c.in_ok-check_contents.was
    (goes_on file _ _ second c.in_ok-check_contents-2.was
    (stops file _ _ third c.in_err-check_contents-3.was c.from_residual-in_err-check_contents-3.ensures)))

pub returns : goal.returns
unfolding head_fields
returns c =
    let file = c.args.file.now in
    let second = rw (c.arrays_at.ensures, c.of-h.ensures.value) at c.check_contents-2.ensures in
    let third = rw (c.vertices_at.ensures, c.of-h.ensures.value) at c.check_contents-3.ensures in
    let fourth = rw (c.edges_at.ensures, c.of-h.ensures.value) at c.check_contents-4.ensures in
    goes_on file (mark_fields file) _ c.check_mark.ensures c.in_ok-check_mark.was
    (goes_on file _ _ c.check_contents.ensures c.in_ok-check_contents.was
    (goes_on file _ _ second c.in_ok-check_contents-2.was
    (goes_on file _ _ third c.in_ok-check_contents-3.was
    fourth)))
