-- `rows::write` meets its contract. The invariant: the rows of the vertices before v are written, and `at` is how long these are. The
-- measure is what is left. Assumes nothing.
use mathlib.Core.Path.{refl, ap, ◌∙◌}
use native.Mathlib.Omega.{arith}
use Rattle.words.specs.Tables.{rows, wrote}
use Rattle.words.proofs.Buffers.{begin, buffer_length, end, row_room, lies, lent, next_row, onward}
use Rattle.calls.proofs.RowBytes.{all_by_vertex, all_length}
use Rattle.calls.proofs.rows.write.Goals as goal

pub loop-v-init : goal.loop-v-init
unfolding rows
loop-v-init c = (begin _ _ _ (omega (arith, c.requires.file_in_bounds, all_length c.args.routine.now.bytes)), refl)

pub slice_bounds-write_vertex-count : goal.slice_bounds-write_vertex-count
slice_bounds-write_vertex-count c = lies c.loop-v.invariant.0 c.loop-v.invariant.1 (omega arith)

pub slice_bounds-write_vertex-start : goal.slice_bounds-write_vertex-start
slice_bounds-write_vertex-start c = slice_bounds-write_vertex-count c

pub write_vertex-at-requires : goal.write_vertex-at-requires
write_vertex-at-requires c =
    record {
      arrivals = c.requires.arrivals;
      firsts = c.requires.firsts;
      file_bound = c.requires.file_bound;
      v_bound = omega arith;
      v_in_bounds = lent c.loop-v.invariant.0 c.loop-v.invariant.1 (omega arith);
    }

pub overflow_add-at : goal.overflow_add-at
overflow_add-at c = omega (arith, row_room c.loop-v.invariant.0 c.loop-v.invariant.1 (omega arith))

pub loop-v-preserved : goal.loop-v-preserved
loop-v-preserved c = (
  next_row c.loop-v.invariant.0 c.loop-v.invariant.1 (omega arith) c.write_vertex-at.ensures.out_after,
  onward c.loop-v.invariant.0 c.loop-v.invariant.1 c.write_vertex-at.ensures.value,
)

pub shape_of-out : goal.shape_of-out
shape_of-out c = buffer_length c.loop-v.invariant.0

pub returns : goal.returns
returns c = end c.loop-v.invariant.0 (omega arith) ∙ ap (wrote c.args.out.now) (all_by_vertex c.args.routine.now.bytes)
