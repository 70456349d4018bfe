-- Document 01, "Run": one array's state: its current copy, the set of live versions, a stamp for each version, the copies counted.
-- Assumes nothing.
use Rattle.std.specs.Prelude.{◌≡◌, Bool, not, List, ◌⊎◌, ℕ, ◌<◌, ◌^◌, eqb, get_or, set, replicate}
use Rattle.sets.specs.Sets.{width}

-- the current version, or 255 for none; the set of live versions; a stamp for each version; the copies counted
pub record State : Type 0 where
  pub current : ℕ
  pub live : ℕ
  pub stamps : List ℕ
  pub copies : ℕ

-- no current copy
abbrev pub nothing : ℕ
nothing = 255

-- a copy is current
abbrev pub has_current : State → Bool
has_current s = not (eqb s.current nothing)

-- the stamp of a version
abbrev pub stamp_of : State → ℕ → ℕ
stamp_of s k = get_or s.stamps k 0

-- the state with this stamp in its current copy
abbrev pub stamped : ℕ → State → State
stamped stamp s = record { current = s.current; live = s.live; stamps = set s.stamps s.current stamp; copies = s.copies }

-- no copies: none current, none live
abbrev pub emptied : ℕ → State
emptied copies = record { current = nothing; live = 0; stamps = replicate width 0; copies = copies }

-- one copy: version k, live and current
abbrev pub one_copy : ℕ → ℕ → ℕ → State
one_copy k stamp copies = record { current = k; live = 2 ^ k; stamps = set (replicate width 0) k stamp; copies = copies }

-- a version or none is current
abbrev pub Current : State → Type 0
Current s = (s.current < width) ⊎ (s.current ≡ nothing)
