-- `writer::write_rows` meets its contract. The invariant: the rows of the vertices before v are written. The measure is what is left.
use mathlib.Core.Path.{◌≡◌, sym, ap, ◌∙◌}
use Prim.Native.Nat.{ℕ, ◌*◌, ◌≤◌, ◌<◌}
use native.Mathlib.Nat.{mul-le-mul_right}
use native.Mathlib.Omega.{arith}
use lib.ListN.{length}
use Rattle.directives.proofs.Limits.{read_limits}
use Rattle.directives.specs.Layout.{vertices}
use Rattle.mappings.proofs.Bytes.{row_size, actions_size}
use Rattle.mappings.specs.Computed.{given_to}
use Rattle.mappings.specs.Converted.{row_bytes}
use Rattle.words.proofs.Buffers.{begin, buffer_length, end, lies, lent, next_row}
use Rattle.words.specs.Tables.{rows}
use Rattle.converted.proofs.writer.write_rows.Goals as goal
use Rattle.converted.proofs.writer.write_rows.Goals.{At-loop-v, In-loop-v}

pub loop-v-init : goal.loop-v-init
loop-v-init c =
    let file = c.args.directives.now.bytes in
    begin _ _ _ (omega (arith, c.requires.file_in_bounds, actions_size file (given_to file) (vertices file)))

-- where the row of vertex v is to stand
here : (c : At-loop-v) → let file = c.args.directives.now.bytes in
    c.loop-v.v * c.arrays-arrays.result ≡ length (rows (row_bytes file (given_to file)) c.loop-v.v)
here c =
    let file = c.args.directives.now.bytes in
    ap (λ (m : ℕ). c.loop-v.v * m) c.arrays-arrays.ensures ∙ sym (actions_size file (given_to file) c.loop-v.v)

-- vertex v is one of the file's
listed : (c : In-loop-v) → c.loop-v.v < vertices c.args.directives.now.bytes
listed c = omega (arith, c.loop-v-test.true, c.vertices-v-end.ensures)

pub overflow_mul-at : goal.overflow_mul-at
overflow_mul-at c =
    let few : c.loop-v.v ≤ 256 = omega (arith, listed (goal.at.overflow_mul-at c).In-loop-v, (read_limits c.args.directives.now).few_vertices) in
    omega (arith, mul-le-mul_right c.arrays-arrays.result few, c.arrays-arrays.ensures, (read_limits c.args.directives.now).few_arrays)

pub slice_bounds-write_row-count : goal.slice_bounds-write_row-count
slice_bounds-write_row-count c = lies c.loop-v.invariant (here (goal.at.slice_bounds-write_row-count c).At-loop-v) (listed (goal.at.slice_bounds-write_row-count c).In-loop-v)

pub slice_bounds-write_row-start : goal.slice_bounds-write_row-start
slice_bounds-write_row-start c = slice_bounds-write_row-count c

pub write_row-requires : goal.write_row-requires
write_row-requires c =
    let in_v = listed (goal.at.write_row-requires c).In-loop-v in
    let file = c.args.directives.now.bytes in
    record {
      v_bound = in_v;
      single = c.requires.single;
      file_in_bounds = omega (arith, lent c.loop-v.invariant (here (goal.at.write_row-requires c).At-loop-v) in_v, row_size file (given_to file) c.loop-v.v);
    }

pub loop-v-preserved : goal.loop-v-preserved
loop-v-preserved c = next_row c.loop-v.invariant (here (goal.at.loop-v-preserved c).At-loop-v) (listed (goal.at.loop-v-preserved c).In-loop-v) c.write_row.ensures

pub shape_of-out : goal.shape_of-out
shape_of-out c = buffer_length c.loop-v.invariant

pub returns : goal.returns
returns c = end c.loop-v.invariant (omega (arith, c.vertices-v-end.ensures))
