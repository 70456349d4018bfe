-- `start` meets its contract: a state without copies, or that with the initial version.
use mathlib.Core.Path.{sym, ◌∙◌}
use Rattle.state.proofs.Carrying.{started_out, started_in}
use Rattle.state.proofs.start.Goals as goal

pub returns-then-not-own : goal.returns-then-not-own
returns-then-not-own c =
    λ row z.
    started_out c.args.r row (sym c.is_in_or_inout-own.ensures ∙ c.if-not-own.true) c.empty.ensures z

pub returns : goal.returns
returns c =
    λ row z.
    started_in c.args.r row (sym c.is_in_or_inout-own.ensures ∙ c.if-not-own.false) c.requires c.one_copy.ensures
