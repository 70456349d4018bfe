-- `expand_in` meets its contract: its tables are large enough, and no larger than a value may be.
use native.Mathlib.Omega.{arith}
use Rattle.checks.proofs.Room.{tables_fit}
use Rattle.expansion.proofs.Ways.{fits}
use Rattle.expansion.proofs.expand_in.Goals as goal

pub new-tables-requires : goal.new-tables-requires
new-tables-requires g c = tables_fit g.row.CELLS g.row.EDGES c.requires.sizes_bound.0 c.requires.sizes_bound.1

pub expand_within-requires : goal.expand_within-requires
expand_within-requires g c =
    let q = c.requires in
    (tables_fit g.row.CELLS g.row.EDGES q.sizes_bound.0 q.sizes_bound.1, (q.expandable, (q.firsts, (q.vertices_counted, (omega (arith, fits q.expandable, q.out_len), (q.edges_room, q.cells_room))))))
