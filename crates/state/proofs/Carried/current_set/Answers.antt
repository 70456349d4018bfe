-- `Carried::current_set` meets its contract: a current copy is a version.
use mathlib.Core.Path.{sym, ◌∙◌}
use Rattle.state.specs.Carrying.{bare}
use Rattle.state.specs.Cleaning.{current_set}
use Rattle.state.proofs.States.{current_below}
use Rattle.state.proofs.Carried.current_set.Goals as goal

pub single-requires : goal.single-requires
single-requires c = current_below (bare c.args.self) c.requires (sym c.has_current-current.ensures ∙ c.if-current.true)

pub returns-then-current : goal.returns-then-current
returns-then-current c = c.single.ensures ∙ simp (current_set, sym c.has_current-current.ensures ∙ c.if-current.true)

pub returns : goal.returns
returns c = simp (current_set, sym c.has_current-current.ensures ∙ c.if-current.false)
