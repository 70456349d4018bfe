-- `check_mark` meets its contract: five fields.
use mathlib.Core.Path.{sym, ◌∙◌}
use Rattle.refusal.proofs.Checks.{exit_fails, passes, then_passed}
use Rattle.directives.specs.Fields.{in_order, mark_fields}
use Rattle.directives.proofs.header.check_mark.Goals as goal

pub returns-in_err-check_letter : goal.returns-in_err-check_letter
unfolding mark_fields in_order
returns-in_err-check_letter c =
    exit_fails _ c.check_letter.ensures c.in_err-check_letter.was c.from_residual.ensures

pub returns-in_err-check_letter-2 : goal.returns-in_err-check_letter-2
unfolding mark_fields in_order
returns-in_err-check_letter-2 c =
    passes c.check_letter.ensures c.in_ok-check_letter.was
    (exit_fails _ c.check_letter-2.ensures c.in_err-check_letter-2.was c.from_residual-in_err-check_letter-2.ensures)

pub returns-in_err-check_letter-3 : goal.returns-in_err-check_letter-3
unfolding mark_fields in_order
returns-in_err-check_letter-3 c =
    passes c.check_letter.ensures c.in_ok-check_letter.was
    (passes c.check_letter-2.ensures c.in_ok-check_letter-2.was
    (exit_fails _ c.check_letter-3.ensures c.in_err-check_letter-3.was c.from_residual-in_err-check_letter-3.ensures))

pub returns-in_err-check_letter-4 : goal.returns-in_err-check_letter-4
unfolding mark_fields in_order
returns-in_err-check_letter-4 c =
    passes c.check_letter.ensures c.in_ok-check_letter.was
    (passes c.check_letter-2.ensures c.in_ok-check_letter-2.was
    (passes c.check_letter-3.ensures c.in_ok-check_letter-3.was
    (exit_fails _ c.check_letter-4.ensures c.in_err-check_letter-4.was c.from_residual-in_err-check_letter-4.ensures)))

pub returns : goal.returns
unfolding mark_fields in_order
returns c =
    rw (← c.word_at.ensures.value)
    (passes c.check_letter.ensures c.in_ok-check_letter.was
    (passes c.check_letter-2.ensures c.in_ok-check_letter-2.was
    (passes c.check_letter-3.ensures c.in_ok-check_letter-3.was
    (passes c.check_letter-4.ensures c.in_ok-check_letter-4.was
    (c.check.ensures ∙ sym (then_passed _))))))
