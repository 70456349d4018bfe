-- `expand_few` meets its contract, with tables of either size.
use native.Mathlib.Omega.{arith}
use Rattle.expansion.proofs.expand_few.Goals as goal

pub expand_in-requires : goal.expand_in-requires
expand_in-requires c =
    record {
      expandable = c.requires.expandable;
      firsts = c.requires.firsts;
      vertices_counted = c.requires.vertices_counted;
      out_len = c.requires.out_len;
      sizes_bound = (omega arith, omega arith);
      edges_room = omega (arith, c.edges.ensures);
      cells_room = omega (arith, c.vertices.ensures);
    }

pub expand_in-requires-2 : goal.expand_in-requires-2
expand_in-requires-2 c =
    record {
      expandable = c.requires.expandable;
      firsts = c.requires.firsts;
      vertices_counted = c.requires.vertices_counted;
      out_len = c.requires.out_len;
      sizes_bound = (omega arith, omega arith);
      edges_room = c.requires.expandable.few_edges;
      cells_room = omega (arith, c.args.routine.now.well.laid.limits.few_vertices);
    }
