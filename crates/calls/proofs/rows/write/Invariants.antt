-- `rows::write` meets its contract. The invariant: the rows of the vertices before v are written, and `at` is how long these are. The
-- measure is what is left. Assumes nothing.
use mathlib.Core.Path.{◌≡◌}
use lib.ListN.{length}
use Rattle.routine.specs.Layout.{vertices}
use Rattle.words.specs.Tables.{rows}
use Rattle.words.proofs.Buffers.{Filled}
use Rattle.calls.specs.VertexRows.{vertex_rows}
use Rattle.calls.proofs.rows.write.Given as goal

abbrev pub invariant-loop-v : goal.invariant-loop-v
invariant-loop-v l = Filled (vertex_rows l.routine.bytes) (vertices l.routine.bytes) l.initial.out l.v l.out × (l.at ≡ length (rows (vertex_rows l.routine.bytes) l.v))
