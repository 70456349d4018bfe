-- Document 01, "Run": copying at every remapping, a machine of its own. It is fed an array's record, what the vertices do with the array
-- and the step numbers, and nothing of the plan or of the run.
-- Assumes nothing.
use Rattle.std.specs.Prelude.{◌≡◌, cond, List, ℕ, zero, suc, ◌+◌, ◌<◌, eqb}
use Rattle.labels.specs.Events.{event}
use Rattle.routine.specs.Actions.{action_byte}
use Rattle.routine.specs.Arrays.{array_of, is_in_or_inout}
use Rattle.routine.specs.Layout.{arrays, vertices}
use Rattle.routine.specs.declared.action.Action.{Action}
use Rattle.routine.specs.declared.action.Action.TheVariants.{Nothing, Reference, Remap, Unknown}
use Rattle.routine.specs.declared.array.ArrayRecord.{ArrayRecord}
use Rattle.report.specs.declared.record.Record.{Record}
use Rattle.path.specs.Paths.{steps, vertex_at}
use Rattle.state.specs.Stamps.{stamp_after}
use Rattle.words.specs.Tables.{rows}
use Rattle.report.specs.Records.{records_at, by_step}

-- for each array a held version, a stamp and a count
pub record Machine : Type 0 where
  pub held : ℕ
  pub stamp : ℕ
  pub count : ℕ

-- the initial version, stamp 65,535 for in and inout, else 0, and count 0
abbrev pub machine_start : ArrayRecord → Machine
machine_start r = record { held = r.initial; stamp = cond (is_in_or_inout r.kind) 65535 0; count = 0 }

-- at each label the count rises by one if its version is not the held one; then that version is held, and the stamp stays.
-- A define or modify gives its step number as the stamp.
abbrev pub machine_step : Action → ℕ → Machine → Machine
machine_step Nothing step m = m
machine_step (Reference x) step m = record { held = m.held; stamp = stamp_after x step m.stamp; count = m.count }
machine_step (Remap k) step m = record { held = k; stamp = m.stamp; count = m.count + cond (eqb k m.held) 0 1 }
machine_step Unknown step m = m

-- after the first n vertices of the path; the vertex at index i is step i + 1
unfoldable pub machine_after : List ℕ → List ℕ → ℕ → ℕ → Machine
unfolding array_of event
machine_after file path a zero = machine_start (array_of file a)
machine_after file path a (suc i) = machine_step (event file a (vertex_at path i)) (i + 1) (machine_after file path a i)

-- its records: a read or modify sees the stamp that stood before the step
unfoldable pub machine_records : List ℕ → List ℕ → List Record
unfolding machine_after event rows
machine_records file path =
    by_step (λ i a. records_at (event file a (vertex_at path i)) (i + 1) a (machine_after file path a i).held (machine_after file path a i).stamp)
    (arrays file) (steps path)

-- two files with the same arrays and the same action bytes, and a path over their vertices: whatever else the files hold, as their edges
-- and so all labels of the plan, the machine goes the same way (`machine_alike`, `records_alike`)
pub record FedAlike (file other path : List ℕ) : Type 0 where
  pub same_arrays : arrays file ≡ arrays other
  pub same_records : (a : ℕ) → a < arrays file → array_of file a ≡ array_of other a
  pub same_vertices : vertices file ≡ vertices other
  pub same_actions : (a v : ℕ) → a < arrays file → v < vertices file → action_byte file a v ≡ action_byte other a v
  pub own_vertices : (i : ℕ) → i < steps path → vertex_at path i < vertices file
