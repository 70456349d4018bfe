-- `writer::write_arrays` meets its contract. The invariant: the records of the arrays before a are written. The measure is what is left.
use Rattle.directives.specs.Layout.{arrays}
use Rattle.mappings.specs.Computed.{given_to}
use Rattle.mappings.specs.Converted.{array_bytes}
use Rattle.words.proofs.Buffers.{Filled}
use Rattle.converted.proofs.writer.write_arrays.Given as goal

abbrev pub invariant-loop-a : goal.invariant-loop-a
invariant-loop-a l = Filled (array_bytes l.directives.bytes (given_to l.directives.bytes)) (arrays l.directives.bytes) l.initial.out l.a l.out
