-- Document 01, "Run": one vertex, by what it does with the array.
-- Assumes nothing.
use Rattle.std.specs.Prelude.{◌≡◌, ℕ, ◌<◌, length}
use Rattle.labels.specs.declared.Use.{Use}
use Rattle.routine.specs.declared.action.Action.{Action}
use Rattle.routine.specs.declared.action.Action.TheVariants.{Nothing, Reference, Remap, Unknown}
use Rattle.routine.specs.declared.array.ArrayRecord.{ArrayRecord}
use Rattle.state.specs.Cleaning.{callers, cleaned}
use Rattle.state.specs.Moves.{moved}
use Rattle.state.specs.References.{referenced}
use Rattle.state.specs.States.{State, Current}
use Rattle.sets.specs.Sets.{width}

-- a label: the move, then the cleaning
unfoldable pub labelled : ArrayRecord → Use → ℕ → ℕ → State → State
unfolding moved cleaned
labelled r u t keep s = cleaned (callers r) keep (moved u t s)

-- an event, the label's letter and kept set, and the step number
abbrev pub visited : ArrayRecord → Action → Use → ℕ → ℕ → State → State
unfolding labelled referenced
visited r Nothing u keep step s = s
visited r (Reference x) u keep step s = referenced x step s
visited r (Remap t) u keep step s = labelled r u t keep s
visited r Unknown u keep step s = s

-- what a label does at a vertex, and nothing else
abbrev pub relabelled : ArrayRecord → Action → Use → ℕ → State → State
unfolding labelled
relabelled r Nothing u keep s = s
relabelled r (Reference x) u keep s = s
relabelled r (Remap t) u keep s = labelled r u t keep s
relabelled r Unknown u keep s = s

-- how the code keeps it: an array's state before a label: a version or none is current, a stamp for each version, and a copy more can be counted
pub record Ready (s : State) : Type 0 where
  pub current : Current s
  pub wide : length s.stamps ≡ width
  pub few_copies : s.copies < 65535
