-- `writer::write_row` meets its contract. The invariant: the bytes of the arrays before a are written. The measure is what is left.
use native.Mathlib.Omega.{arith}
use Rattle.mappings.proofs.Bytes.{row_size}
use Rattle.mappings.specs.Computed.{given_to}
use Rattle.words.proofs.Buffers.{begin, buffer_length, end, next_byte}
use Rattle.converted.proofs.writer.write_row.Goals as goal

pub loop-a-init : goal.loop-a-init
loop-a-init c = begin _ _ _ (omega (arith, c.requires.file_in_bounds, row_size c.args.directives.now.bytes (given_to c.args.directives.now.bytes) c.args.v))

pub action-requires : goal.action-requires
action-requires c =
    record {
      a_bound = omega (arith, c.loop-a-test.true, c.arrays-a-end.ensures);
      v_bound = c.requires.v_bound;
      single = c.requires.single;
    }

pub bounds-out-a : goal.bounds-out-a
bounds-out-a c = omega (arith, buffer_length c.loop-a.invariant, c.arrays-a-end.ensures, c.requires.file_in_bounds)

pub loop-a-preserved : goal.loop-a-preserved
loop-a-preserved c = next_byte c.loop-a.invariant (omega (arith, c.arrays-a-end.ensures)) c.action.ensures

pub shape_of-out : goal.shape_of-out
shape_of-out c = buffer_length c.loop-a.invariant

pub returns : goal.returns
returns c = end c.loop-a.invariant (omega (arith, c.arrays-a-end.ensures))
