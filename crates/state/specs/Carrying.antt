-- How the code keeps it: an array's state as it is carried along the path, small, with the stamp of its current copy; the stamps of its other versions stand in a row beside it.
-- Assumes nothing.
use Rattle.std.specs.Prelude.{◌≡◌, true, ◌||◌, cond, List, [], ℕ, ◌+◌, ◌*◌, ◌<◌, eqb, length, get_or}
use Rattle.labels.specs.declared.Use.{Use}
use Rattle.routine.specs.declared.action.Action.{Action}
use Rattle.routine.specs.declared.action.Action.TheVariants.{Remap}
use Rattle.routine.specs.declared.array.ArrayRecord.{ArrayRecord}
use Rattle.sets.specs.Sets.{width, has}
use Rattle.state.specs.declared.Carried.{Carried}
use Rattle.state.specs.Cleaning.{callers, cleaned}
use Rattle.state.specs.Moves.{moved}
use Rattle.state.specs.States.{State, has_current, stamp_of, Current}
use Rattle.state.specs.Vertex.{Ready, relabelled}

-- the state that is carried, with these stamps
abbrev pub whole : Carried → List ℕ → State
whole c stamps = record { current = c.current; live = c.live; stamps = stamps; copies = c.copies }

-- the state that is carried, but for its stamps
abbrev pub bare : Carried → State
bare c = whole c []

-- the same with another stamp of the current copy
abbrev pub carrying : ℕ → Carried → Carried
carrying stamp c = record { current = c.current; live = c.live; copies = c.copies; stamp = stamp }

-- state s, carried as c beside this row: c has the stamp of the current copy, whatever the row has in its place; the row has those of the other
-- live versions and of the caller's, the set `own`; what it has for any other version is no matter
pub record Carries (own : ℕ) (s : State) (c : Carried) (row : ℕ → ℕ) : Type 0 where
  pub is : s ≡ whole c s.stamps
  pub stamp_is : has_current s ≡ true → c.stamp ≡ stamp_of s s.current
  pub row_is : (k : ℕ) → k < width → (has s.live k || has own k) ≡ true → (s.current ≡ k → ⊥) → row k ≡ stamp_of s k

-- before a label: a version or none is current, and a copy more can be counted
pub record Sound (c : Carried) : Type 0 where
  pub current : Current (bare c)
  pub few_copies : c.copies < 65535

-- and before an event, whose version is below the width
pub record Visits (x : Action) (c : Carried) : Type 0 where
  pub sound : Sound c
  pub at_remap : (t : ℕ) → x ≡ Remap t → t < width

-- the row with the current copy's stamp in its place
abbrev pub stored : Carried → (ℕ → ℕ) → ℕ → ℕ
stored c row k = cond (eqb c.current k) c.stamp (row k)

-- a label on what is carried, where the row has `held` for its version: if c carries a state, n carries what the rule makes of it
pub record Labelled (u : Use) (t keep held : ℕ) (c n : Carried) : Type 0 where
  pub rule : (own : ℕ) (s : State) (row : ℕ → ℕ) → Ready s → Carries own s c row → held ≡ row t
      → Carries own (cleaned own keep (moved u t s)) n (stored c row)

-- the rows of all arrays in one table: that of array a
abbrev pub row_of : List ℕ → ℕ → ℕ → ℕ
row_of others a k = get_or others (width * a + k) 0

-- the rows of all arrays but a are as they were
abbrev pub OtherRows : ℕ → List ℕ → List ℕ → Type 0
OtherRows a old new = (b k : ℕ) → (b ≡ a → ⊥) → k < width → row_of new b k ≡ row_of old b k

-- an event of array a, on what is carried and the table: the other rows stay, and the rule holds
pub record Relabelled (x : Action) (u : Use) (keep a : ℕ) (c : Carried) (old : List ℕ) (n : Carried) (new : List ℕ) : Type 0 where
  pub sized : length new ≡ length old
  pub other_rows : OtherRows a old new
  pub rule : (r : ArrayRecord) (s : State) → Ready s → Carries (callers r) s c (row_of old a) → Carries (callers r) (relabelled r x u keep s) n (row_of new a)
