-- `edges::write_next` meets its contract: it goes past the next edge of the file if that leaves this vertex, else into the next vertex.
use mathlib.Core.Path.{refl, subst}
use mathlib.Core.Bool.{Bool, true, false}
use Prim.Native.Nat.{◌+◌, ◌≤◌}
use native.Mathlib.Omega.{arith}
use lib.ListN.{length}
use Rattle.calls.specs.Expanded.{inner_edges, expanded_edges}
use Rattle.calls.specs.Writing.{Leaves}
use Rattle.calls.proofs.Written.{all_few, up_to_few, past_edge_lem, onward_edge, in_next_lem, onward_vertex}
use Rattle.calls.proofs.edges.write_next.Goals as goal
use Rattle.calls.proofs.edges.write_next.Goals.{After-leaves, Else-leaves, Then-leaves}

abbrev Told : (c : After-leaves) → Bool → Type 0
Told c b = Leaves c.args.routine.now.bytes c.args.p.edge c.args.p.vertex b

-- ---- the edge leaves this vertex

leaving : (c : Then-leaves) → Told (goal.at.Then-leaves c).After-leaves true
leaving c = subst (Told (goal.at.Then-leaves c).After-leaves) c.if-leaves.true c.leaves.ensures

room_edge : (c : Then-leaves) → c.args.p.count + 1 ≤ length (expanded_edges c.args.routine.now.bytes)
room_edge c =
    up_to_few c.args.routine.now.well (past_edge_lem c.args.routine.now.well c.requires.placed (leaving c).0 (leaving c).1)

pub outer-e-requires : goal.outer-e-requires
outer-e-requires c =
    record {
      firsts = c.requires.firsts;
      file_bound = c.requires.file_bound;
      i_bound = (leaving c).0;
    }

pub write_pair-requires : goal.write_pair-requires
write_pair-requires c =
    record {
      in_bounds = omega (arith, room_edge (goal.at.write_pair-requires c).Then-leaves, c.requires.file_bound_2);
      first_bound = omega (arith, c.outer-e.ensures.from_bound);
      second_bound = omega (arith, c.outer-e.ensures.from_bound);
    }

pub overflow_add-result-then-leaves : goal.overflow_add-result-then-leaves
overflow_add-result-then-leaves c = record { fits = omega (arith, room_edge (goal.at.overflow_add-result-then-leaves c).Then-leaves, all_few c.args.routine.now.well) }

pub returns-then-leaves : goal.returns-then-leaves
returns-then-leaves c = onward_edge c.args.routine.now.well c.requires.placed (leaving (goal.at.returns-then-leaves c).Then-leaves).0 (leaving (goal.at.returns-then-leaves c).Then-leaves).1 c.outer-e.ensures.value c.write_pair.ensures

-- ---- it does not

remaining : (c : Else-leaves) → Told (goal.at.Else-leaves c).After-leaves false
remaining c = subst (Told (goal.at.Else-leaves c).After-leaves) c.if-leaves.false c.leaves.ensures

room_vertex : (c : Else-leaves) →
    c.args.p.count + length (inner_edges c.args.routine.now.bytes (c.args.p.vertex + 1)) ≤ length (expanded_edges c.args.routine.now.bytes)
room_vertex c =
    up_to_few c.args.routine.now.well (in_next_lem c.args.routine.now.well c.requires.placed c.requires.vertex_bound (remaining c) refl)

pub write_inner-inside-requires : goal.write_inner-inside-requires
write_inner-inside-requires c =
    record {
      firsts = c.requires.firsts;
      file_bound = c.requires.file_bound;
      v_bound = c.requires.vertex_bound;
      v_in_bounds = omega (arith, room_vertex (goal.at.write_inner-inside-requires c).Else-leaves, c.requires.file_bound_2);
    }

pub overflow_add-result-3 : goal.overflow_add-result-3
overflow_add-result-3 c = record { fits = omega (arith, c.write_inner-inside.ensures.value, room_vertex (goal.at.overflow_add-result-3 c).Else-leaves, all_few c.args.routine.now.well) }

pub returns : goal.returns
returns c = onward_vertex c.args.routine.now.well c.requires.placed c.requires.vertex_bound (remaining (goal.at.returns c).Else-leaves) c.write_inner-inside.ensures.value c.write_inner-inside.ensures.out_after
