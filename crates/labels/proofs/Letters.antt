-- Letters as bytes.
-- Assumes nothing.
use mathlib.Core.Path.{◌≡◌, refl}
use mathlib.Core.Bool.{Bool, true, false, not, ◌||◌, cond}
use Prim.Native.Nat.{ℕ}
use native.Mathlib.Omega.{arith}
use borrow.Author.Tests.{eqb-true}
use lib.Dec.{eqb}
use Rattle.labels.specs.Kept.{is_n_or_r}
use Rattle.labels.specs.Letters.{letter_byte, use_of_byte}
use Rattle.labels.specs.Uses.{is_n}
use Rattle.labels.specs.declared.Use.{Use}
use Rattle.labels.specs.declared.Use.TheVariants.{N, D, R, W}

pub letter_use : (u : Use) → use_of_byte (letter_byte u) ≡ u
letter_use N = refl
letter_use D = refl
letter_use R = refl
letter_use W = refl

-- tests of a letter's byte
pub not_n : (b : ℕ) → not (eqb b 78) ≡ not (is_n (use_of_byte b))
not_n b = by (eqb b 78) (eqb b 68) (eqb b 82)
  where
    by : (n d r : Bool) → not n ≡ not (is_n (cond n N (cond d D (cond r R W))))
    by true d r = refl
    by false true r = refl
    by false false true = refl
    by false false false = refl

pub n_or_r : (b : ℕ) → (eqb b 78 || eqb b 82) ≡ is_n_or_r (use_of_byte b)
n_or_r b = by (eqb b 78) (eqb b 68) (eqb b 82) refl refl
  where
    by : (n d r : Bool) → eqb b 68 ≡ d → eqb b 82 ≡ r → (n || r) ≡ is_n_or_r (cond n N (cond d D (cond r R W)))
    by true d r e f = refl
    by false true true e f = absurd (omega (arith, eqb-true b 68 e, eqb-true b 82 f))
    by false true false e f = refl
    by false false true e f = refl
    by false false false e f = refl
