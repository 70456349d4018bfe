-- Document 01, "Run", and document 02, request 1: at the exit.
-- Assumes nothing.
use Rattle.std.specs.Prelude.{Bool, cond}
use Rattle.routine.specs.Arrays.{is_argument, is_in}
use Rattle.routine.specs.declared.array.ArrayRecord.{ArrayRecord}
use Rattle.state.specs.States.{State, stamp_of, emptied, one_copy}

-- at the exit an in argument loses every copy but the caller's, which is then live and current, with the stamp that it had and no copy counted;
-- local arrays lose all copies and have none current
abbrev pub left : ArrayRecord → Bool → State → State
left r at_exit s =
    cond at_exit
    (cond (is_in r.kind) (one_copy r.initial (stamp_of s r.initial) s.copies) (cond (is_argument r.kind) s (emptied s.copies)))
    s
