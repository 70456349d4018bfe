-- `check_writes_row` meets its contract: a row that has no such write passes.
use mathlib.Core.Path.{sym, ◌∙◌}
use Rattle.refusal.specs.declared.Refusal.TheVariants.{WritesInArgument}
use Rattle.checks.proofs.Rows.{row_passes, writes_cell}
use Rattle.checks.proofs.check_writes_row.Goals as goal

pub returns : goal.returns
returns c =
    row_passes (WritesInArgument c.args.v) c.args.routine.now.well.laid.limits.few_arrays
    (λ a h. writes_cell c.requires.use_gives c.args.v c.requires.v_bound a h c.requires.in_masks) (sym c.row_writes-any.ensures ∙ c.if-any.false)
