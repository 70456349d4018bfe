-- `edge::check` meets its contract: from, to, order.
use mathlib.Core.Path.{sym, ◌∙◌}
use Rattle.refusal.proofs.Checks.{exit_fails, passes, then_passed}
use Rattle.directives.specs.Fields.{in_order, edge_fields}
use Rattle.directives.proofs.edge.check.Goals as goal

pub returns-in_err-check : goal.returns-in_err-check
unfolding edge_fields in_order
returns-in_err-check c =
    rw (← c.place-from_at.ensures.value, ← c.word_at-from.ensures.value, ← c.vertices-vertices.ensures)
    (exit_fails _ c.check.ensures c.in_err-check.was c.from_residual.ensures)

pub returns-in_err-check-2 : goal.returns-in_err-check-2
unfolding edge_fields in_order
returns-in_err-check-2 c =
    rw (← c.place-from_at.ensures.value, ← c.word_at-from.ensures.value, ← c.vertices-vertices.ensures, ← c.word_at-to.ensures.value)
    (passes c.check.ensures c.in_ok-check.was
    (exit_fails _ c.check-2.ensures c.in_err-check-2.was c.from_residual-in_err-check-2.ensures))

pub returns : goal.returns
unfolding edge_fields in_order
returns c =
    rw (← c.place-from_at.ensures.value, ← c.word_at-from.ensures.value, ← c.vertices-vertices.ensures, ← c.word_at-to.ensures.value, ← c.rises_at.ensures)
    (passes c.check.ensures c.in_ok-check.was
    (passes c.check-2.ensures c.in_ok-check-2.was
    (c.check-3.ensures ∙ sym (then_passed _))))
