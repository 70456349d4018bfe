-- Members of sets, as types: a test of a set made of others says what the tests of these say.
-- Assumes nothing.
use mathlib.Core.Path.{◌≡◌}
use mathlib.Core.Bool.{Bool, cond}
use mathlib.Core.Logic.{◌↔◌, ◌⊎◌}
use Prim.Native.Nat.{ℕ, ◌^◌}
use lib.Dec.{T}
use lib.Bits.{bit_and, bit_or}
use Rattle.sets.specs.Sets.{bit, has}
use Rattle.sets.proofs.Laws.{has_or, has_and, has-cond, has_single}
use Rattle.words.proofs.Tests.{or_iff, and_iff, eqb_iff}

-- k is a member exactly if bit k is 1
pub member_iff : (m k : ℕ) → T (has m k) ↔ (bit m k ≡ 1)
unfolding has
member_iff m k = eqb_iff (bit m k) 1

-- of a set of one member
pub member_single : (j k : ℕ) → T (has (2 ^ j) k) ↔ (j ≡ k)
member_single j k = rw has_single (eqb_iff j k)

module _ {A B : Type 0} where
  -- of one of two sets
  pub member_or : (a b k : ℕ) → T (has a k) ↔ A → T (has b k) ↔ B → T (has (bit_or a b) k) ↔ (A ⊎ B)
  member_or a b k f g = rw has_or (or_iff (has a k) (has b k) f g)

  -- of both sets
  pub member_and : (a b k : ℕ) → T (has a k) ↔ A → T (has b k) ↔ B → T (has (bit_and a b) k) ↔ (A × B)
  member_and a b k f g = rw has_and (and_iff (has a k) (has b k) f g)

  -- of a set that is there where a test passes, and empty elsewhere
  pub member_cond : (b : Bool) (m k : ℕ) → T b ↔ A → T (has m k) ↔ B → T (has (cond b m 0) k) ↔ (A × B)
  member_cond b m k f g = rw has-cond (and_iff b (has m k) f g)
