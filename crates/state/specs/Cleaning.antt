-- Document 01, "Run": the cleaning at every label.
-- Assumes nothing.
use Rattle.std.specs.Prelude.{cond, List, ℕ, zero, suc, ◌^◌, set}
use Rattle.std.specs.Int.Bits.{bit_or}
use Rattle.routine.specs.Arrays.{is_argument}
use Rattle.routine.specs.declared.array.ArrayRecord.{ArrayRecord}
use Rattle.sets.specs.Sets.{has, minus, width}
use Rattle.state.specs.States.{State, has_current}

-- the current copy as a set
abbrev pub current_set : State → ℕ
current_set s = cond (has_current s) (2 ^ s.current) 0

-- the live versions outside the kept set and not current
abbrev pub dying : ℕ → State → ℕ
dying keep s = minus s.live (bit_or keep (current_set s))

-- an argument's initial version belongs to the caller
abbrev pub callers : ArrayRecord → ℕ
callers r = cond (is_argument r.kind) (2 ^ r.initial) 0

-- the stamps of the dying versions below n become 0
unfoldable pub cleared : ℕ → List ℕ → ℕ → List ℕ
unfolding has
cleared dead stamps zero = stamps
cleared dead stamps (suc n) = cond (has dead n) (set (cleared dead stamps n) n 0) (cleared dead stamps n)

-- dying versions are live no more; the caller's version keeps its stamp
unfoldable pub cleaned : ℕ → ℕ → State → State
unfolding cleared minus
cleaned own keep s =
    record {
      current = s.current;
      live = minus s.live (dying keep s);
      stamps = cleared (minus (dying keep s) own) s.stamps width;
      copies = s.copies;
    }
