-- Version sets as masks, bit k for version k. Only `width`, `half_width` and what is said by them name a width.
-- Assumes nothing.
use Rattle.std.specs.Prelude.{◌≡◌, Bool, true, ℕ, ◌+◌, ◌-◌, ◌*◌, ◌/◌, ◌%◌, ◌^◌, eqb, ltb}
use Rattle.std.specs.Int.Bits.{bit_and}
use Rattle.std.specs.Int.Count.{ones}

-- how many versions an array may have, and so the bits of a set
abbrev pub width : ℕ
width = 32

-- the set of every version
abbrev pub every_version : ℕ
every_version = 2 ^ width - 1

-- ---- halves of a set: bits 0 to 15, and 16 to 31 from bit 0 on

abbrev pub half_width : ℕ
half_width = 16

abbrev pub low_half : ℕ → ℕ
low_half m = m % 2 ^ half_width

abbrev pub high_half : ℕ → ℕ
high_half m = m / 2 ^ half_width

-- the set that has these halves
abbrev pub of_halves : ℕ → ℕ → ℕ
of_halves low high = low + 2 ^ half_width * high

-- every version of a half
abbrev pub every_half : ℕ
every_half = 2 ^ half_width - 1

-- ---- members

-- bit k of a mask, 0 or 1
unfoldable pub bit : ℕ → ℕ → ℕ
bit m k = m / 2 ^ k % 2

-- k is in the set
unfoldable pub has : ℕ → ℕ → Bool
unfolding bit
has m k = eqb (bit m k) 1

-- what is in a and not in b
unfoldable pub minus : ℕ → ℕ → ℕ
minus a b = a - bit_and a b

-- two different members
pub record Two (m : ℕ) : Type 0 where
  pub first : ℕ
  pub second : ℕ
  pub differ : first ≡ second → ⊥
  pub has_first : has m first ≡ true
  pub has_second : has m second ≡ true

-- more than one member, by counting ones; `several_two` and `two_several` say that this is `Two`
abbrev pub several : ℕ → Bool
several m = ltb 1 (ones m)
