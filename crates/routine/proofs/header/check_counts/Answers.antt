-- `check_counts` meets its contract: three counts in a row.
use mathlib.Core.Path.{ap, ◌∙◌}
use Rattle.routine.specs.Layout.{counts_check, check12}
use Rattle.refusal.proofs.Checks.{exit_fails, passes}
use Rattle.routine.proofs.header.check_counts.Goals as goal

pub returns-in_err-check_count : goal.returns-in_err-check_count
unfolding check12
returns-in_err-check_count c = exit_fails _ c.check_count.ensures c.in_err-check_count.was c.from_residual.ensures ∙ ap counts_check c.of-h.ensures

pub returns-in_err-check_count-2 : goal.returns-in_err-check_count-2
unfolding check12
returns-in_err-check_count-2 c =
    passes c.check_count.ensures c.in_ok-check_count.was
    (exit_fails _ c.check_count-2.ensures c.in_err-check_count-2.was c.from_residual-in_err-check_count-2.ensures)
    ∙ ap counts_check c.of-h.ensures

pub returns : goal.returns
unfolding check12
returns c =
    passes c.check_count.ensures c.in_ok-check_count.was
    (passes c.check_count-2.ensures c.in_ok-check_count-2.was
    c.check_count-3.ensures)
    ∙ ap counts_check c.of-h.ensures
