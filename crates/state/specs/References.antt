-- Document 01, "Run": a reference.
-- Assumes nothing.
use Rattle.std.specs.Prelude.{ℕ}
use Rattle.routine.specs.declared.action.Access.{Access}
use Rattle.state.specs.States.{State, stamp_of, stamped}
use Rattle.state.specs.Stamps.{stamp_after}

-- the current version is used, and a define or modify gives it the step number as its stamp
unfoldable pub referenced : Access → ℕ → State → State
referenced x step s = stamped (stamp_after x step (stamp_of s s.current)) s
