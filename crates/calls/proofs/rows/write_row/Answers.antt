-- `rows::write_row` meets its contract. The invariant: the bytes of the arrays before a are written. The measure is what is left.
use native.Mathlib.Omega.{arith}
use Rattle.routine.specs.Layout.{arrays}
use Rattle.words.proofs.Buffers.{begin, buffer_length, end, next_byte}
use Rattle.words.proofs.Tables.{table-length}
use Rattle.calls.specs.Expanded.{expanded_byte}
use Rattle.calls.specs.VertexRows.{part_of, part_row}
use Rattle.calls.proofs.rows.write_row.Goals as goal

pub loop-a-init : goal.loop-a-init
loop-a-init c =
    let file = c.args.routine.now.bytes in
    begin _ _ _ (omega (arith, c.requires.file_in_bounds, table-length (λ a. expanded_byte file a (part_of c.args.row c.args.v)) (arrays file)))

pub expanded_byte-requires : goal.expanded_byte-requires
expanded_byte-requires c =
    record {
      arrivals = c.requires.arrivals;
      v_bound = c.requires.v_bound;
      a_bound = omega (arith, c.loop-a-test.true, c.arrays-a-end.ensures);
    }

pub bounds-out-a : goal.bounds-out-a
bounds-out-a c = omega (arith, buffer_length c.loop-a.invariant, c.arrays-a-end.ensures, c.requires.file_in_bounds)

pub loop-a-preserved : goal.loop-a-preserved
loop-a-preserved c = next_byte c.loop-a.invariant (omega (arith, c.arrays-a-end.ensures)) c.expanded_byte.ensures

pub shape_of-out : goal.shape_of-out
shape_of-out c = buffer_length c.loop-a.invariant

pub returns : goal.returns
unfolding part_row
returns c = end c.loop-a.invariant (omega arith)
