-- `by_number` meets its contract: each edge has its own turn.
use mathlib.Core.Path.{sym, subst}
use Rattle.flow.proofs.Rounds.{natural_order}
use Rattle.flow.specs.Order.{Order}
use Rattle.order.proofs.by_number.Goals as goal

pub returns : goal.returns
returns c = subst (Order _) (sym c.identity.ensures) (natural_order _)
