-- `plan_in` meets its contract: its tables are large enough, and no larger than a value may be.
use Rattle.std.proofs.Common.{rules}
use native.Mathlib.Omega.{arith}
use Rattle.checks.proofs.Room.{tables_fit}
use Rattle.plan.proofs.plan_in.Goals as goal

pub new-tables-requires : goal.new-tables-requires
new-tables-requires g c = tables_fit g.row.CELLS g.row.EDGES c.requires.sizes_bound.0 c.requires.sizes_bound.1

pub whole_as_slice-plan_within : goal.whole_as_slice-plan_within
whole_as_slice-plan_within g c = omega (arith, c.requires.sizes_bound.2)

pub plan_within-requires : goal.plan_within-requires
plan_within-requires g c =
    let q = c.requires in
    (tables_fit g.row.CELLS g.row.EDGES q.sizes_bound.0 q.sizes_bound.1, (omega (arith, q.sizes_bound.0, q.sizes_bound.1), (q.edges_room, (q.cells_room, search rules))))
