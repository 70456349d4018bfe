-- `events::action_rows` meets its contract: row after row both tables are filled.
use mathlib.Core.List.{List}
use Prim.Native.Nat.{ℕ, ◌≤◌}
use Rattle.flow.proofs.Cells.{rows_to}
use Rattle.labels.specs.Events.{version_set}
use Rattle.labels.specs.Uses.{use_gives}
use Rattle.routine.specs.Actions.{action}
use Rattle.passes.specs.Tables.{CellsAlone}
use Rattle.passes.proofs.events.action_rows.Given as goal

-- what the cell of array a and vertex v is to hold
abbrev pub version_at : List ℕ → ℕ → ℕ → ℕ
version_at file a v = version_set (action file a v)

abbrev pub use_at : List ℕ → ℕ → ℕ → ℕ
use_at file a v = use_gives (action file a v)

abbrev pub invariant-loop-v : goal.invariant-loop-v
invariant-loop-v l = (l.v ≤ l.v-end) × CellsAlone l.routine.bytes (rows_to (version_at l.routine.bytes) l.initial.versions l.v) l.versions × CellsAlone l.routine.bytes (rows_to (use_at l.routine.bytes) l.initial.uses l.v) l.uses
