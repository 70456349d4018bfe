-- `check_dimension` meets its contract: three fields.
use mathlib.Core.Path.{sym, ◌∙◌}
use Rattle.refusal.proofs.Checks.{exit_fails, passes, then_passed}
use Rattle.directives.specs.Fields.{in_order, dimension_fields}
use Rattle.directives.proofs.spread.check_dimension.Goals as goal

pub returns-in_err-check : goal.returns-in_err-check
unfolding dimension_fields in_order
returns-in_err-check c =
    rw (← c.byte_at-kind.ensures.value)
    (exit_fails _ c.check.ensures c.in_err-check.was c.from_residual.ensures)

pub returns-in_err-check-2 : goal.returns-in_err-check-2
unfolding dimension_fields in_order
returns-in_err-check-2 c =
    rw (← c.byte_at-kind.ensures.value, ← c.byte_at-zero.ensures.value)
    (passes c.check.ensures c.in_ok-check.was
    (exit_fails _ c.check-2.ensures c.in_err-check-2.was c.from_residual-in_err-check-2.ensures))

pub returns : goal.returns
unfolding dimension_fields in_order
returns c =
    rw (← c.byte_at-kind.ensures.value, ← c.byte_at-zero.ensures.value, ← c.word_at-b.ensures.value, ← c.fits_kind.ensures)
    (passes c.check.ensures c.in_ok-check.was
    (passes c.check-2.ensures c.in_ok-check-2.was
    (c.check-3.ensures ∙ sym (then_passed _))))
