-- Document 01, "Run": a define or modify gives its step number as the new stamp, a kill 0. Run and machine read it alike.
-- Assumes nothing.
use Rattle.std.specs.Prelude.{ℕ}
use Rattle.routine.specs.declared.action.Access.{Access}
use Rattle.routine.specs.declared.action.Access.TheVariants.{Read, Define, Modify, Kill}
use Rattle.routine.specs.declared.action.Action.{Action}
use Rattle.routine.specs.declared.action.Action.TheVariants.{Nothing, Reference, Remap, Unknown}

-- the stamp after a reference
abbrev pub stamp_after : Access → ℕ → ℕ → ℕ
stamp_after Read step stamp = stamp
stamp_after Define step stamp = step
stamp_after Modify step stamp = step
stamp_after Kill step stamp = 0

-- after an event that is no label
abbrev pub stamp_by : Action → ℕ → ℕ → ℕ
stamp_by Nothing step stamp = stamp
stamp_by (Reference x) step stamp = stamp_after x step stamp
stamp_by (Remap k) step stamp = stamp
stamp_by Unknown step stamp = stamp
