-- `run_read` meets its contract, with tables of either size.
use native.Mathlib.Omega.{arith}
use Rattle.run.proofs.run_read.Goals as goal

pub run_in-requires : goal.run_in-requires
run_in-requires c =
    record {
      sizes_bound = (omega arith, omega arith, omega arith);
      edges_room = omega (arith, c.edges.ensures);
      cells_room = omega (arith, c.vertices.ensures);
      counts_room = omega (arith, c.vertices.ensures);
    }

pub run_in-requires-2 : goal.run_in-requires-2
run_in-requires-2 c =
    let few = c.args.routine.now.well.laid.limits in
    record {
      sizes_bound = (omega arith, omega arith, omega arith);
      edges_room = few.few_edges;
      cells_room = omega (arith, few.few_vertices);
      counts_room = omega (arith, few.few_vertices);
    }
