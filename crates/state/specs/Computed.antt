-- How the code keeps it: what the functions over a carried state compute.
-- Assumes nothing.
use Rattle.std.specs.Prelude.{Bool, cond, List, ℕ, ◌+◌, ◌*◌, ◌^◌, set}
use Rattle.std.specs.Int.Bits.{bit_or}
use Rattle.labels.specs.declared.Use.{Use}
use Rattle.sets.specs.Sets.{width, has, minus}
use Rattle.state.specs.declared.Carried.{Carried}
use Rattle.state.specs.Carrying.{bare}
use Rattle.state.specs.Cleaning.{dying}
use Rattle.state.specs.Moves.{moves, copies_stamp}
use Rattle.state.specs.States.{nothing, has_current}

-- no copies: none current, none live
abbrev pub no_copies : ℕ → Carried
no_copies copies = record { current = nothing; live = 0; copies = copies; stamp = 0 }

-- one copy: version k, live and current
abbrev pub single_copy : ℕ → ℕ → ℕ → Carried
single_copy k stamp copies = record { current = k; live = 2 ^ k; copies = copies; stamp = stamp }

-- the target's stamp, where the row has `held` for it: copied; or its own if it is live; or 0
abbrev pub target_stamp_by : ℕ → Bool → ℕ → Carried → ℕ
target_stamp_by t copied held c = cond copied c.stamp (cond (has c.live t) held 0)

-- the target becomes live and current, with its stamp; one copy is counted if a stamp is copied
abbrev pub taken : ℕ → Bool → ℕ → Carried → Carried
taken t copied held c =
    record { current = t; live = bit_or c.live (2 ^ t); copies = c.copies + cond copied 1 0; stamp = target_stamp_by t copied held c }

-- the move
unfoldable pub shifted : Use → ℕ → ℕ → Carried → Carried
unfolding copies_stamp
shifted u t held c = cond (moves u t (bare c)) (taken t (copies_stamp u t (bare c)) held c) c

-- the cleaning: no stamp is cleared, since a dead version's is never used
unfoldable pub cleaned_by : ℕ → Carried → Carried
cleaned_by keep c = record { current = c.current; live = minus c.live (dying keep (bare c)); copies = c.copies; stamp = c.stamp }

-- the table with the current copy's stamp in its place in array a's row
abbrev pub stored_at : Carried → ℕ → List ℕ → List ℕ
stored_at c a others = cond (has_current (bare c)) (set others (width * a + c.current) c.stamp) others
