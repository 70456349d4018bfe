-- `edge::place` meets its contract: the edge stands within the longest file.
use native.Mathlib.Omega.{arith}
use Rattle.directives.proofs.Places.{edge_place}
use Rattle.directives.proofs.edge.place.Goals as goal

pub overflow_add-result : goal.overflow_add-result
overflow_add-result c = omega (arith, c.edges_at.ensures, edge_place c.args.laid.now.limits c.requires)

pub returns : goal.returns
returns c =
    record {
      value = omega (arith, c.edges_at.ensures);
      result_bound = omega (arith, c.edges_at.ensures, edge_place c.args.laid.now.limits c.requires);
    }
