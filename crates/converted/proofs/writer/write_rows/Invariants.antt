-- `writer::write_rows` meets its contract. The invariant: the rows of the vertices before v are written. The measure is what is left.
use Rattle.directives.specs.Layout.{vertices}
use Rattle.mappings.specs.Computed.{given_to}
use Rattle.mappings.specs.Converted.{row_bytes}
use Rattle.words.proofs.Buffers.{Filled}
use Rattle.converted.proofs.writer.write_rows.Given as goal

abbrev pub invariant-loop-v : goal.invariant-loop-v
invariant-loop-v l = Filled (row_bytes l.directives.bytes (given_to l.directives.bytes)) (vertices l.directives.bytes) l.initial.out l.v l.out
