-- Document 01, "Plan and report", and document 02, request 8: the report's bytes, and its length.
-- Assumes nothing.
use Rattle.std.specs.Prelude.{List, ◌++◌, ℕ, ◌+◌, ◌*◌}
use Rattle.demand.specs.Run.{state_after, run_records}
use Rattle.labels.specs.Events.{event}
use Rattle.path.specs.Passes.{passes_up_to, passes_of}
use Rattle.path.specs.Paths.{steps, vertex_at}
use Rattle.report.specs.Bytes.{entry_bytes, records_bytes}
use Rattle.report.specs.References.{references_at}
use Rattle.routine.specs.Layout.{arrays, edges}
use Rattle.words.specs.Sums.{total}
use Rattle.words.specs.Tables.{rows}
use Rattle.words.specs.Words.{bytes16}

-- the entry of each array, from its last state
unfoldable pub entries : List ℕ → List ℕ → List ℕ
unfolding rows state_after
entries file path = rows (λ a. entry_bytes (state_after file path a (steps path))) (arrays file)

-- how often each edge is passed, 16 bits each
unfoldable pub counts : List ℕ → List ℕ → List ℕ
unfolding rows passes_up_to
counts file path = rows (λ n. bytes16 (passes_of file path n)) (edges file)

-- the entries of the arrays, then the records, then the counts of the edges
unfoldable pub report_bytes : List ℕ → List ℕ → List ℕ
unfolding entries run_records counts
report_bytes file path = entries file path ++ (records_bytes (run_records file path) ++ counts file path)

-- ---- the length: eight bytes an array, ten a reference on the path, two an edge

-- references at the first n vertices of the path
unfoldable pub references_on : List ℕ → List ℕ → ℕ → ℕ
unfolding total event
references_on file path n = total (λ i. references_at file (vertex_at path i)) n

-- the report's length
unfoldable pub report_length : List ℕ → List ℕ → ℕ
unfolding references_on
report_length file path = 8 * arrays file + 10 * references_on file path (steps path) + 2 * edges file
