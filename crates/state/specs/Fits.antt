-- How the code keeps it: the fields of a state fit their types, and index only what is there.
-- Assumes nothing.
use Rattle.std.specs.Prelude.{◌≡◌, List, ℕ, ◌≤◌, ◌<◌, ◌^◌, length, get_or}
use Rattle.state.specs.States.{State, Current}
use Rattle.sets.specs.Sets.{width}

-- a stamp of 16 bits for each version
pub record Stamps (l : List ℕ) : Type 0 where
  pub wide : length l ≡ width
  pub small : (k : ℕ) → get_or l k 0 ≤ 65535

-- a state after n steps: a version or none is current, the live set has no version beyond the width, and there are at most as many copies as steps
pub record Fits (s : State) (n : ℕ) : Type 0 where
  pub current : Current s
  pub live : s.live < 2 ^ width
  pub stamps : Stamps s.stamps
  pub copies : s.copies ≤ n
