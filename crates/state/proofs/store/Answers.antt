-- `store` meets its contract: a current copy is a version, so its place is in the row.
use mathlib.Core.Path.{sym, ◌∙◌}
use native.Mathlib.Omega.{arith}
use Rattle.state.specs.Carrying.{bare}
use Rattle.state.proofs.States.{current_below}
use Rattle.state.proofs.store.Goals as goal

pub bounds-others-at : goal.bounds-others-at
bounds-others-at c = omega (arith, c.requires.a_bound.0, c.requires.a_bound.1, current_below (bare c.args.c) c.requires.current (sym c.has_current-current.ensures ∙ c.if-current.true))

pub returns-then-current : goal.returns-then-current
returns-then-current c = simp (sym c.has_current-current.ensures ∙ c.if-current.true)

pub returns-else-current : goal.returns-else-current
returns-else-current c = simp (sym c.has_current-current.ensures ∙ c.if-current.false)
