-- `pass::order` meets its contract: what is ordered are the edges of the file.
use mathlib.Core.Path.{sym, ap, subst, ◌∙◌}
use mathlib.Core.List.{List}
use Prim.Native.Nat.{ℕ}
use native.Mathlib.Omega.{arith}
use Rattle.flow.specs.Order.{Order}
use Rattle.flow.specs.Paths.{edge_count}
use Rattle.facts.proofs.Edges.{edge_count_lem, few_edges}
use Rattle.facts.proofs.pass.order.Goals as goal

pub fill-requires : goal.fill-requires
fill-requires c =
    let count = ap edge_count c.edge_bytes.ensures in
    record {
      edges_bound = omega (arith, count, few_edges c.args.directives.now);
      order_len = c.requires.order_len ∙ sym (count ∙ edge_count_lem c.args.directives.now);
    }

pub returns : goal.returns
returns c = subst (λ (es : List ℕ). Order (edge_count es) c.fill.new.order) c.edge_bytes.ensures c.fill.ensures
