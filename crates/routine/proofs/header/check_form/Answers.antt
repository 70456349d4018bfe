-- `check_form` meets its contract: checks 10 to 13 in a row, each of which leaves what the next one requires.
use mathlib.Core.Path.{sym, ◌∙◌}
use Prim.Native.Nat.{◌≤◌}
use lib.ListN.{length}
use Rattle.routine.specs.Reader.{form_check}
use Rattle.routine.proofs.Form.{long_enough, in_limits}
use Rattle.refusal.proofs.Checks.{exit_fails, passes}
use Rattle.routine.proofs.header.check_form.Goals as goal
use Rattle.routine.proofs.header.check_form.Goals.{In_ok-check_mark}

-- check 10 passed
long : (c : In_ok-check_mark) → 18 ≤ length c.args.file.now
long c = long_enough _ (sym c.check_mark.ensures ∙ c.in_ok-check_mark.was)

pub returns-in_err-check_mark : goal.returns-in_err-check_mark
unfolding form_check
returns-in_err-check_mark c = exit_fails _ c.check_mark.ensures c.in_err-check_mark.was c.from_residual.ensures

pub check_edition-requires : goal.check_edition-requires
check_edition-requires c = long (goal.at.check_edition-requires c).In_ok-check_mark

pub returns-in_err-check_edition : goal.returns-in_err-check_edition
unfolding form_check
returns-in_err-check_edition c =
    passes c.check_mark.ensures c.in_ok-check_mark.was
    (exit_fails _ c.check_edition.ensures c.in_err-check_edition.was c.from_residual-in_err-check_edition.ensures)

pub check_counts-requires : goal.check_counts-requires
check_counts-requires c = long (goal.at.check_counts-requires c).In_ok-check_mark

pub returns-in_err-check_counts : goal.returns-in_err-check_counts
unfolding form_check
returns-in_err-check_counts c =
    passes c.check_mark.ensures c.in_ok-check_mark.was
    (passes c.check_edition.ensures c.in_ok-check_edition.was
    (exit_fails _ c.check_counts.ensures c.in_err-check_counts.was c.from_residual-in_err-check_counts.ensures))

pub check_layout-requires : goal.check_layout-requires
check_layout-requires c =
    record {
      in_bounds = long (goal.at.check_layout-requires c).In_ok-check_mark;
      limits = in_limits _ (sym c.check_counts.ensures ∙ c.in_ok-check_counts.was);
    }

pub returns : goal.returns
unfolding form_check
returns c =
    passes c.check_mark.ensures c.in_ok-check_mark.was
    (passes c.check_edition.ensures c.in_ok-check_edition.was
    (passes c.check_counts.ensures c.in_ok-check_counts.was
    c.check_layout.ensures))
