-- Document 01, "Run": the move at a label of version t and letter u.
-- Assumes nothing.
use Rattle.std.specs.Prelude.{Bool, true, false, not, ◌&&◌, cond, ℕ, ◌+◌, ◌^◌, eqb}
use Rattle.std.specs.Int.Bits.{bit_or}
use Rattle.labels.specs.Uses.{is_n}
use Rattle.labels.specs.declared.Use.{Use}
use Rattle.labels.specs.declared.Use.TheVariants.{N, D, R, W}
use Rattle.sets.specs.Sets.{has}
use Rattle.state.specs.States.{State, has_current, stamp_of, stamped}

-- the target is to be taken up: the label is kept, and the target is not current, or nothing is
abbrev pub moves : Use → ℕ → State → Bool
moves u t s = not (is_n u) && not (eqb s.current t)

-- D: the value is not copied
abbrev pub is_d : Use → Bool
is_d N = false
is_d D = true
is_d R = false
is_d W = false

-- a stamp is copied: the target is not live, the use is not D, and a copy is current
unfoldable pub copies_stamp : Use → ℕ → State → Bool
unfolding has
copies_stamp u t s = moves u t s && (not (has s.live t) && (not (is_d u) && has_current s))

-- the target's stamp, where the current copy has this one: copied; or its own if it is live; or 0
abbrev pub target_stamp : Use → ℕ → ℕ → State → ℕ
unfolding copies_stamp
target_stamp u t stamp s = cond (copies_stamp u t s) stamp (cond (has s.live t) (stamp_of s t) 0)

-- the target becomes live and current; one copy is counted if a stamp is copied
abbrev pub taken_up : Use → ℕ → State → State
unfolding copies_stamp
taken_up u t s = record { current = t; live = bit_or s.live (2 ^ t); stamps = s.stamps; copies = s.copies + cond (copies_stamp u t s) 1 0 }

-- the move: the target is taken up and gets its stamp; where nothing is current none is copied, and the one handed over, 0, is not used
unfoldable pub moved : Use → ℕ → State → State
unfolding copies_stamp has
moved u t s = cond (moves u t s) (stamped (target_stamp u t (stamp_of s s.current) s) (taken_up u t s)) s
