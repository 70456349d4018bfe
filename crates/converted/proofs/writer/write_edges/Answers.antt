-- `writer::write_edges` meets its contract: the bytes of the edges are copied.
use mathlib.Core.Path.{ap, ◌∙◌}
use native.Mathlib.Omega.{arith}
use lib.ListN.{length}
use Rattle.mappings.proofs.Formed.{edges_size}
use Rattle.words.specs.Tables.{wrote}
use Rattle.converted.proofs.writer.write_edges.Goals as goal

pub copy-requires : goal.copy-requires
copy-requires c = omega (arith, ap length c.edge_bytes.ensures, edges_size c.args.directives.now.bytes c.args.directives.now.passed, c.requires.file_in_bounds)

pub returns : goal.returns
returns c = c.copy.ensures.out_after ∙ ap (wrote c.args.out.now) c.edge_bytes.ensures
