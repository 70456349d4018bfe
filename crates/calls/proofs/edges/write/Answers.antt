-- `edges::write` meets its contract. The invariant: the edges up to place p are written. The measure is what is left of vertices and edges.
use mathlib.Core.Path.{◌≡◌, sym, ap, ◌∙◌}
use mathlib.Core.List.{List}
use Prim.Native.Nat.{◌-◌, ◌*◌, ◌≤◌}
use native.Mathlib.Omega.{arith}
use lib.ListN.{length}
use Rattle.routine.specs.declared.edge.Edge.{Edge}
use Rattle.words.proofs.Buffers.{starts, lends}
use Rattle.words.proofs.Written.{wrote-length}
use Rattle.words.specs.Tables.{wrote}
use Rattle.calls.specs.Expanded.{expanded_edges, edges_bytes}
use Rattle.calls.specs.Writing.{edges_up_to}
use Rattle.calls.proofs.Written.{begins, begins_none, all_few, up_to_few, place_is, write_on, ends}
use Rattle.calls.proofs.edges.write.Goals as goal
use Rattle.calls.proofs.edges.write.Goals.{At-loop-p}

-- what is written is no longer than what is to be
within : (l : At-loop-p) → 4 * l.loop-p.p.count ≤ 4 * length (expanded_edges l.args.routine.now.bytes)
within l = omega (arith, up_to_few l.args.routine.now.well l.loop-p.invariant.0)

place : (l : At-loop-p) → 4 * l.loop-p.p.count ≡ length (edges_bytes (edges_up_to l.args.routine.now.bytes l.loop-p.p.vertex l.loop-p.p.edge))
place l = place_is l.args.routine.now.well l.loop-p.invariant.0

pub loop-p-init : goal.loop-p-init
loop-p-init c = (begins c.args.routine.now.well, record { is = sym (ap (λ (es : List Edge). wrote c.args.out.now (edges_bytes es)) (begins_none c.args.routine.now.well)) })

pub overflow_add-p : goal.overflow_add-p
overflow_add-p c = record { fits = omega (arith, c.loop-p.invariant.0.in_vertices, c.args.routine.now.well.laid.limits.few_vertices) }

pub overflow_mul-at : goal.overflow_mul-at
overflow_mul-at c = record { fits = omega (arith, within (goal.at.overflow_mul-at c).At-loop-p, all_few c.args.routine.now.well) }

pub slice_bounds-write_next-count : goal.slice_bounds-write_next-count
slice_bounds-write_next-count c = starts c.loop-p.invariant.1 (place (goal.at.slice_bounds-write_next-count c).At-loop-p) (omega (arith, within (goal.at.slice_bounds-write_next-count c).At-loop-p, c.requires.file_in_bounds))

pub slice_bounds-write_next-start : goal.slice_bounds-write_next-start
slice_bounds-write_next-start c = slice_bounds-write_next-count c

pub write_next-p-requires : goal.write_next-p-requires
write_next-p-requires c =
    let left = lends c.loop-p.invariant.1 (place (goal.at.write_next-p-requires c).At-loop-p) {m = 4 * length (expanded_edges c.args.routine.now.bytes) - 4 * c.loop-p.p.count} (omega (arith, within (goal.at.write_next-p-requires c).At-loop-p, c.requires.file_in_bounds)) in
    record {
      firsts = c.requires.firsts;
      file_bound = c.requires.file_bound;
      placed = c.loop-p.invariant.0;
      vertex_bound = omega (arith, c.loop-p-test.true, c.vertices-n.ensures);
      file_bound_2 = omega (arith, left);
    }

pub loop-p-smaller : goal.loop-p-smaller
loop-p-smaller c = omega (arith, c.write_next-p.ensures.less, c.write_next-p.ensures.placed.in_vertices, c.write_next-p.ensures.placed.in_edges)

pub loop-p-preserved : goal.loop-p-preserved
loop-p-preserved c = (c.write_next-p.ensures.placed, write_on c.args.routine.now.well c.loop-p.invariant.0 c.loop-p.invariant.1 c.write_next-p.ensures)

pub shape_of-out : goal.shape_of-out
shape_of-out c =
    wrote-length c.args.out.now (edges_bytes (edges_up_to c.args.routine.now.bytes c.loop-p.p.vertex c.loop-p.p.edge)) c.loop-p.invariant.1.is
    (omega (arith, place (goal.at.shape_of-out c).At-loop-p, within (goal.at.shape_of-out c).At-loop-p, c.requires.file_in_bounds))

pub returns : goal.returns
returns c =
    let all = ends c.args.routine.now.well c.loop-p.invariant.0 (omega (arith, c.loop-p-test.false, c.vertices-n.ensures)) in
    record {
      value = c.loop-p.invariant.0.counted ∙ ap length all;
      out_after = c.loop-p.invariant.1.is ∙ ap (λ (es : List Edge). wrote c.args.out.now (edges_bytes es)) all;
    }
