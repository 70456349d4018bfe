-- `Laid::action` meets its contract.
use mathlib.Core.Path.{ap, ◌∙◌}
use Rattle.routine.specs.Actions.{action_of, action}
use Rattle.routine.proofs.laid.Laid.action.Goals as goal

pub returns : goal.returns
unfolding action
returns c = c.from.ensures ∙ ap action_of c.action_byte.ensures
