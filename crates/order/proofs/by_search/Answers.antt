-- `order::by_search` meets its contract: the edges stand by their numbers at first, and every edge has its place after the searches.
use mathlib.Core.Path.{refl, ap, ◌∙◌}
use Rattle.flow.specs.Order.{natural}
use Rattle.flow.specs.Paths.{edge_count}
use Rattle.order.proofs.Turns.{natural_placed, placed_order}
use Rattle.order.proofs.by_search.Goals as goal

pub settle_all-requires : goal.settle_all-requires
settle_all-requires c = natural_placed (edge_count c.args.edges.now) _ c.identity.new.t c.identity-2.new.t c.requires.edges_bound refl (c.identity.ensures ∙ ap natural c.requires.order_len) c.identity-2.ensures

pub returns : goal.returns
returns c = placed_order _ _ _ c.settle_all.ensures
