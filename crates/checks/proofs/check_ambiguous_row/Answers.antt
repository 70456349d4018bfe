-- `check_ambiguous_row` meets its contract: a row that has no ambiguous reference passes.
use mathlib.Core.Path.{sym, ◌∙◌}
use Rattle.refusal.specs.declared.Refusal.TheVariants.{AmbiguousReference}
use Rattle.checks.proofs.Rows.{row_passes, ambiguous_cell}
use Rattle.checks.proofs.check_ambiguous_row.Goals as goal

pub returns : goal.returns
returns c =
    row_passes (AmbiguousReference c.args.v) c.args.routine.now.well.laid.limits.few_arrays
    (λ a h. ambiguous_cell c.requires.use_gives c.args.v c.requires.v_bound a h c.requires.at_references) (sym c.row_ambiguous-any.ensures ∙ c.if-any.false)
