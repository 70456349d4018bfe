-- `writer::header_of` meets its contract.
use Rattle.converted.proofs.Parts.{header_is}
use Rattle.converted.proofs.writer.header_of.Goals as goal

pub returns : goal.returns
returns c = header_is c.args.directives.now.bytes c.arrays.ensures c.vertices.ensures c.edges.ensures
