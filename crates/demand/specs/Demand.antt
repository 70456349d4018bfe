-- Demand 3, one claim about the whole path: on every path the run reads, at every reference, the same version and value as copying at
-- every remapping, ends with out and inout home and right, and copies no more often.
-- Assumes nothing.
use Rattle.std.specs.Prelude.{◌≡◌, List, ℕ, ◌-◌, ◌≤◌, ◌<◌, ◌^◌, T}
use Rattle.std.proofs.Math.Option.{some}
use Rattle.labels.specs.Events.{event, is_label, version}
use Rattle.routine.specs.Arrays.{kind, initial, is_in, is_out_or_inout}
use Rattle.labels.specs.Reaching.{last_version}
use Rattle.routine.specs.Actions.{is_reference}
use Rattle.routine.specs.Layout.{arrays, exit}
use Rattle.demand.specs.Machine.{machine_after, machine_records}
use Rattle.path.specs.Paths.{steps, vertex_at}
use Rattle.state.specs.States.{stamp_of}
use Rattle.demand.specs.Run.{state_after, run_records, stamps_copied}
use Rattle.words.specs.Tables.{table}

-- an argument is home: current in its initial version, with the machine's last stamp
abbrev pub IsHome : List ℕ → List ℕ → ℕ → Type 0
IsHome file path a =
    ((state_after file path a (steps path)).current ≡ initial file a)
    × (stamp_of (state_after file path a (steps path)) (initial file a) ≡ (machine_after file path a (steps path)).stamp)

-- an in argument is the caller's again: its copy alone is live, and current, with stamp 65,535; the exit counts no copy
abbrev pub IsCallers : List ℕ → List ℕ → ℕ → Type 0
IsCallers file path a =
    ((state_after file path a (steps path)).current ≡ initial file a)
    × ((state_after file path a (steps path)).live ≡ 2 ^ initial file a)
    × (stamp_of (state_after file path a (steps path)) (initial file a) ≡ 65535)
    × ((state_after file path a (steps path)).copies ≡ (state_after file path a (steps path - 1)).copies)

-- demand 3
pub record Demand3 (file path : List ℕ) : Type 0 where
  -- the report's records are the machine's: version held, kind, stamp seen, new stamp
  pub reads_alike : run_records file path ≡ machine_records file path
  -- the version used at a reference is the one that the source names there: that of the array's last label before it on the path;
  -- `table (vertex_at path) i` are the vertices before the one at index i
  pub source_names :
      (i a : ℕ) → i < steps path → a < arrays file → T (is_reference (event file a (vertex_at path i)))
      → last_version (is_label file a) (version file a) (table (vertex_at path) i) ≡ some (state_after file path a i).current
  -- where the path ends at the exit, out and inout are current in their initial version, with the machine's last stamp
  pub ends_home :
      (a : ℕ) → a < arrays file → vertex_at path (steps path - 1) ≡ exit file → T (is_out_or_inout (kind file a)) → IsHome file path a
  -- there the caller's copy of an in argument is live and current, and has stamp 65,535
  pub ends_callers :
      (a : ℕ) → a < arrays file → vertex_at path (steps path - 1) ≡ exit file → T (is_in (kind file a)) → IsCallers file path a
  -- the copies in the report are the stamps copied
  pub copies_counted : (a : ℕ) → a < arrays file → (state_after file path a (steps path)).copies ≡ stamps_copied file path a (steps path)
  -- and at most what copying at every remapping counts
  pub copies_fewer : (a : ℕ) → a < arrays file → (state_after file path a (steps path)).copies ≤ (machine_after file path a (steps path)).count
