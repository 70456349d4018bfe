-- The report's bytes, entry by entry, record by record and count by count, and their number; references on a path.
-- Assumes nothing.
use mathlib.Core.Path.{◌≡◌, sym, ap, ◌∙◌}
use mathlib.Core.Bool.{cond}
use mathlib.Core.List.{List}
use Prim.Native.Nat.{ℕ, ◌+◌, ◌*◌, ◌≤◌, ◌<◌}
use native.Mathlib.Omega.{arith}
use lib.ListN.{length, get_or, length-append}
use Rattle.demand.specs.Run.{state_after, run_records}
use Rattle.labels.specs.Events.{event}
use Rattle.path.specs.Passes.{passes_of}
use Rattle.path.specs.Paths.{steps, vertex_at}
use Rattle.report.specs.Bytes.{entry_bytes, carried_of, entries_of, records_bytes, counts_of}
use Rattle.report.specs.Records.{records_at}
use Rattle.report.specs.References.{references_at}
use Rattle.report.proofs.Bytes.{entries-length, counts-length, by_step_bytes, ten}
use Rattle.routine.specs.Actions.{is_reference}
use Rattle.routine.specs.Layout.{arrays, edges}
use Rattle.state.specs.Carrying.{bare}
use Rattle.state.specs.States.{stamp_of}
use Rattle.state.specs.declared.Carried.{Carried}
use Rattle.walk.specs.Report.{entries, counts, report_bytes, references_on, report_length}
use Rattle.walk.specs.Walks.{Reported}
use Rattle.words.specs.Tables.{rows, table}
use Rattle.words.specs.Words.{bytes16}
use Rattle.words.proofs.Sums.{total_none, total_more, total_few, count_few, rows-total}
use Rattle.words.proofs.Tables.{rows_same, table-length, table_at}

-- ---- entries

pub entries_of_lem :
    (file path : List ℕ) (states : List Carried) → ((a : ℕ) → a < arrays file → Reported (state_after file path a (steps path)) (carried_of states a))
    → entries_of states (arrays file) ≡ entries file path
unfolding entries
entries_of_lem file path states is =
    rows_same (λ a. entry_bytes (bare (carried_of states a))) (λ a. entry_bytes (state_after file path a (steps path))) (arrays file)
    (λ a h. sym (ap entry_bytes (is a h).is))

-- ---- records

-- the bytes of array a at index i of the path
abbrev pub record_bytes_at : List ℕ → List ℕ → ℕ → ℕ → List ℕ
record_bytes_at file path i a =
    records_bytes
    (records_at (event file a (vertex_at path i)) (i + 1) a (state_after file path a i).current
    (stamp_of (state_after file path a i) (state_after file path a i).current))

-- those of all arrays
abbrev pub step_bytes : List ℕ → List ℕ → ℕ → List ℕ
step_bytes file path i = rows (record_bytes_at file path i) (arrays file)

pub records_bytes_lem : (file path : List ℕ) → records_bytes (run_records file path) ≡ rows (step_bytes file path) (steps path)
unfolding run_records
records_bytes_lem file path = by_step_bytes _ (arrays file) (steps path)

-- ---- how many bytes

module _ (file path : List ℕ) where
  at_step : (i : ℕ) → length (step_bytes file path i) ≡ 10 * references_at file (vertex_at path i)
  at_step i =
      rows-total (record_bytes_at file path i) (λ a. cond (is_reference (event file a (vertex_at path i))) 1 0) 10
      (λ a. ten (event file a (vertex_at path i)) (i + 1) a _ _)
      (arrays file)

  on_path : (n : ℕ) → length (rows (step_bytes file path) n) ≡ 10 * references_on file path n
  unfolding references_on
  on_path = rows-total (step_bytes file path) (λ i. references_at file (vertex_at path i)) 10 at_step

  -- references on a path, counted vertex by vertex; they are few
  pub on_none : 0 ≡ references_on file path 0
  unfolding references_on
  on_none = total_none (λ i. references_at file (vertex_at path i))

  pub on_more : {count more : ℕ} (i : ℕ) → count ≡ references_on file path i → more ≡ references_at file (vertex_at path i) → count + more ≡ references_on file path (i + 1)
  unfolding references_on
  on_more i e f = total_more (λ i. references_at file (vertex_at path i)) i e f

  pub on_few : arrays file ≤ 8 → (n : ℕ) → references_on file path n ≤ 8 * n
  unfolding references_on
  on_few few n =
      total_few (λ i. references_at file (vertex_at path i)) 8
      (λ i. omega (arith, few, count_few (λ a. is_reference (event file a (vertex_at path i))) (arrays file)))
      n

  pub records_length : length (records_bytes (run_records file path)) ≡ 10 * references_on file path (steps path)
  records_length = omega (arith, ap length (records_bytes_lem file path), on_path (steps path))

  pub edge-counts-length : length (counts file path) ≡ 2 * edges file
  unfolding counts
  edge-counts-length = counts-length (passes_of file path) (edges file)

  pub report_length_lem : length (report_bytes file path) ≡ report_length file path
  unfolding report_bytes entries report_length
  report_length_lem =
      simp length-append
      (omega (arith, entries-length (λ a. state_after file path a (steps path)) (arrays file), records_length, edge-counts-length))

  -- eight bytes an array, and then the records and the counts
  pub report_parts : report_length file path ≡ 8 * arrays file + (length (records_bytes (run_records file path)) + 2 * edges file)
  unfolding report_length
  report_parts = omega (arith, records_length)

-- ---- counts

pub taken-length : (file path : List ℕ) {taken : List ℕ} → taken ≡ table (passes_of file path) (edges file) → length taken ≡ edges file
taken-length file path e = ap length e ∙ table-length (passes_of file path) (edges file)

pub counts_of_is : (file path : List ℕ) {taken : List ℕ} → taken ≡ table (passes_of file path) (edges file) → counts_of taken ≡ counts file path
unfolding counts
counts_of_is file path {taken} e =
    ap (rows (λ n. bytes16 (get_or taken n 0))) (taken-length file path e)
    ∙ rows_same (λ n. bytes16 (get_or taken n 0)) (λ n. bytes16 (passes_of file path n)) (edges file)
    (λ n h. ap bytes16 (ap (λ (t : List ℕ). get_or t n 0) e ∙ table_at (passes_of file path) (edges file) n h))
