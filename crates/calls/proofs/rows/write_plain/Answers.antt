-- `rows::write_plain` meets its contract: the row of a vertex that is no call is the file's.
use mathlib.Core.Path.{ap, ◌∙◌}
use native.Mathlib.Omega.{arith}
use lib.ListN.{length}
use Rattle.words.specs.Tables.{wrote}
use Rattle.calls.specs.Parts.{plain}
use Rattle.calls.specs.VertexRows.{part_row}
use Rattle.calls.proofs.RowBytes.{row_length}
use Rattle.calls.proofs.rows.write_plain.Goals as goal

pub copy-requires : goal.copy-requires
unfolding part_row
copy-requires c = omega (arith, ap length c.row.ensures ∙ row_length c.args.routine.now.bytes (plain c.args.v), c.requires.file_in_bounds)

pub returns : goal.returns
unfolding part_row
returns c = c.copy.ensures.out_after ∙ ap (wrote c.args.out.now) c.row.ensures
