-- `order::fill` meets its contract: the edges by their numbers are an order.
use mathlib.Core.Path.{sym, ap, subst, ◌∙◌}
use Rattle.flow.specs.Order.{Order, natural}
use Rattle.flow.proofs.Rounds.{natural_order}
use Rattle.order.proofs.fill.Goals as goal

pub returns-then-is_good : goal.returns-then-is_good
returns-then-is_good c = subst (Order _) (sym (c.identity.ensures ∙ ap natural c.requires.order_len)) (natural_order _)
