-- Document 01, "Run": how an array starts.
-- Assumes nothing.
use Rattle.std.specs.Prelude.{cond}
use Rattle.routine.specs.Arrays.{is_in_or_inout}
use Rattle.routine.specs.declared.array.ArrayRecord.{ArrayRecord}
use Rattle.state.specs.States.{State, emptied, one_copy}

-- in and inout start current and live in the initial version with stamp 65,535; others with no current copy, none live
abbrev pub started : ArrayRecord → State
started r = cond (is_in_or_inout r.kind) (one_copy r.initial 65535 0) (emptied 0)
