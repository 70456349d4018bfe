-- `array::check` meets its contract: four fields.
use mathlib.Core.Path.{sym, ◌∙◌}
use Rattle.refusal.proofs.Checks.{exit_fails, passes, then_passed}
use Rattle.directives.specs.Fields.{in_order, array_fields}
use Rattle.directives.proofs.array.check.Goals as goal

pub returns-in_err-check : goal.returns-in_err-check
unfolding array_fields in_order
returns-in_err-check c =
    rw (← c.place-at.ensures.value, ← c.byte_at-kind.ensures.value)
    (exit_fails _ c.check.ensures c.in_err-check.was c.from_residual.ensures)

pub returns-in_err-check-2 : goal.returns-in_err-check-2
unfolding array_fields in_order
returns-in_err-check-2 c =
    rw (← c.place-at.ensures.value, ← c.byte_at-kind.ensures.value, ← c.byte_at-template.ensures.value, ← c.templates.ensures)
    (passes c.check.ensures c.in_ok-check.was
    (exit_fails _ c.check-2.ensures c.in_err-check-2.was c.from_residual-in_err-check-2.ensures))

pub returns-in_err-check-3 : goal.returns-in_err-check-3
unfolding array_fields in_order
returns-in_err-check-3 c =
    rw (← c.place-at.ensures.value, ← c.byte_at-kind.ensures.value, ← c.byte_at-template.ensures.value, ← c.templates.ensures, ← c.byte_at-exchanged.ensures.value)
    (passes c.check.ensures c.in_ok-check.was
    (passes c.check-2.ensures c.in_ok-check-2.was
    (exit_fails _ c.check-3.ensures c.in_err-check-3.was c.from_residual-in_err-check-3.ensures)))

pub returns : goal.returns
unfolding array_fields in_order
returns c =
    rw (← c.place-at.ensures.value, ← c.byte_at-kind.ensures.value, ← c.byte_at-template.ensures.value, ← c.templates.ensures, ← c.byte_at-exchanged.ensures.value, ← c.byte_at-zero.ensures.value)
    (passes c.check.ensures c.in_ok-check.was
    (passes c.check-2.ensures c.in_ok-check-2.was
    (passes c.check-3.ensures c.in_ok-check-3.was
    (c.check-4.ensures ∙ sym (then_passed _)))))
