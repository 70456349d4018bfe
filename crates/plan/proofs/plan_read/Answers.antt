-- `plan_read` meets its contract, with tables of either size.
use native.Mathlib.Omega.{arith}
use Rattle.plan.proofs.plan_read.Goals as goal

pub plan_in-requires : goal.plan_in-requires
plan_in-requires c =
    record {
      sizes_bound = (omega arith, omega arith, omega arith);
      edges_room = omega (arith, c.edges.ensures);
      cells_room = omega (arith, c.vertices.ensures);
      firsts_room = omega (arith, c.vertices.ensures);
    }

pub plan_in-requires-2 : goal.plan_in-requires-2
plan_in-requires-2 c =
    let few = c.args.routine.now.well.laid.limits in
    record {
      sizes_bound = (omega arith, omega arith, omega arith);
      edges_room = few.few_edges;
      cells_room = omega (arith, few.few_vertices);
      firsts_room = omega (arith, few.few_vertices);
    }
