-- `check_contents` meets its contract: two fields.
use mathlib.Core.Path.{sym, ◌∙◌}
use Rattle.refusal.proofs.Checks.{exit_fails, passes, then_passed}
use Rattle.directives.specs.Fields.{in_order, contents_fields}
use Rattle.directives.proofs.header.check_contents.Goals as goal

pub returns-in_err-check : goal.returns-in_err-check
unfolding contents_fields in_order
returns-in_err-check c =
    rw (← c.word_at.ensures.value)
    (exit_fails _ c.check.ensures c.in_err-check.was c.from_residual.ensures)

pub returns : goal.returns
unfolding contents_fields in_order
returns c =
    rw (← c.word_at.ensures.value, ← c.word_at-count.ensures.value)
    (passes c.check.ensures c.in_ok-check.was
    (c.check-2.ensures ∙ sym (then_passed _)))
