-- Document 01, "Run": each array along the path, and the report's records. The rules of one vertex are those of crate `state`.
-- Assumes nothing.
use Rattle.std.specs.Prelude.{Bool, false, List, ℕ, zero, suc, ◌+◌, eqb}
use Rattle.labels.specs.Events.{event}
use Rattle.labels.specs.Kept.{kept_of}
use Rattle.labels.specs.Uses.{use_of}
use Rattle.labels.specs.declared.Use.{Use}
use Rattle.routine.specs.Arrays.{array_of}
use Rattle.routine.specs.Layout.{arrays, exit}
use Rattle.routine.specs.declared.action.Action.{Action}
use Rattle.routine.specs.declared.action.Action.TheVariants.{Nothing, Reference, Remap, Unknown}
use Rattle.state.specs.Exit.{left}
use Rattle.state.specs.Moves.{copies_stamp}
use Rattle.state.specs.References.{referenced}
use Rattle.state.specs.Start.{started}
use Rattle.state.specs.States.{State, stamp_of}
use Rattle.state.specs.Vertex.{labelled, visited}
use Rattle.report.specs.declared.record.Record.{Record}
use Rattle.path.specs.Paths.{steps, vertex_at}
use Rattle.words.specs.Tables.{rows}
use Rattle.report.specs.Records.{records_at, by_step}
use Rattle.words.specs.Sums.{total, count_of}

-- after the first n vertices of the path; the vertex at index i is step i + 1
unfoldable pub state_after : List ℕ → List ℕ → ℕ → ℕ → State
unfolding array_of event use_of kept_of labelled referenced
state_after file path a zero = started (array_of file a)
state_after file path a (suc i) =
    left (array_of file a) (eqb (vertex_at path i) (exit file))
    (visited (array_of file a) (event file a (vertex_at path i)) (use_of file a (vertex_at path i)) (kept_of file a (vertex_at path i)) (i + 1)
    (state_after file path a i))

-- the report's records
unfoldable pub run_records : List ℕ → List ℕ → List Record
unfolding state_after event rows
run_records file path =
    by_step
    (λ i a.
    records_at (event file a (vertex_at path i)) (i + 1) a (state_after file path a i).current
    (stamp_of (state_after file path a i) (state_after file path a i).current))
    (arrays file) (steps path)

-- whether an event copies a stamp
abbrev pub copied_by : Action → Use → State → Bool
unfolding copies_stamp
copied_by Nothing u s = false
copied_by (Reference x) u s = false
copied_by (Remap t) u s = copies_stamp u t s
copied_by Unknown u s = false

-- whether one is copied for array a at index i of the path
unfoldable pub copied_at : List ℕ → List ℕ → ℕ → ℕ → Bool
unfolding state_after event use_of copies_stamp
copied_at file path a i = copied_by (event file a (vertex_at path i)) (use_of file a (vertex_at path i)) (state_after file path a i)

-- the number of stamps copied at the first n vertices
unfoldable pub stamps_copied : List ℕ → List ℕ → ℕ → ℕ → ℕ
unfolding total copied_at
stamps_copied file path a n = count_of (copied_at file path a) n
