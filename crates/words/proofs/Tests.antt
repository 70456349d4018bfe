-- Laws of tests: choices by a test, tests of several parts, as equations and as types, and comparisons.
-- Assumes nothing.
use mathlib.Core.Path.{◌≡◌, refl, sym, ◌∙◌}
use mathlib.Core.Bool.{Bool, true, false, not, ◌&&◌, ◌||◌, cond, true≢false, and-eq-true_iff}
use mathlib.Core.Logic.Iff
use mathlib.Core.Logic.{◌↔◌, ◌⊎◌, inl, inr, ⊎_elim}
use Prim.Native.Nat.{ℕ, ◌+◌}
use native.Mathlib.Omega.{arith}
use borrow.Author.Tests.{lt-ltb, le-ltb, le-leb, lt-leb, eq-eqb, ne_eqb, ltb-true, ltb-false}
use lib.Dec.{T, leb, ltb, eqb, eqb→eq}
use lib.Ieee.Fits.{eq→eqb}

-- what a branch tells, as the value of its test
pub ruleset tests = (lt-ltb, le-ltb, le-leb, lt-leb, eq-eqb, ne_eqb)

-- ---- choices

-- what holds of both choices, each where its case is given, holds of the choice
pub at_cond : {A : Type 0} (P : A → Type 0) (b : Bool) {x y : A} → (b ≡ true → P x) → (b ≡ false → P y) → P (cond b x y)
at_cond P true f g = f refl
at_cond P false f g = g refl

-- what follows from either outcome of a test
pub by_test : {P : Type 0} (b : Bool) → (b ≡ true → P) → (b ≡ false → P) → P
by_test true f g = f refl
by_test false f g = g refl

-- the negation chooses the other way round
pub cond-not : {A : Type 0} (b : Bool) (x y : A) → cond b x y ≡ cond (not b) y x
cond-not true x y = refl
cond-not false x y = refl

-- ---- tests of two parts, as equations

-- both hold: the first, and the second
pub and_left : (a b : Bool) → (a && b) ≡ true → a ≡ true
and_left a b e = ((and-eq-true_iff a b).0 e).0

pub and_right : (a b : Bool) → (a && b) ≡ true → b ≡ true
and_right a b e = ((and-eq-true_iff a b).0 e).1

-- neither holds
pub neither : (a b : Bool) → (a || b) ≡ false → (a ≡ false) × (b ≡ false)
neither true b e = absurd (true≢false e)
neither false b e = (refl, e)

-- what follows from either of two tests
pub or_cases : {P : Type 0} (a b : Bool) → (a ≡ true → P) → (b ≡ true → P) → (a || b) ≡ true → P
or_cases true b f g h = f refl
or_cases false b f g h = g h

-- ---- tests as types

-- a test passes, or its negation does
pub either : (b : Bool) → T b ⊎ T (not b)
either true = inl tt
either false = inr tt

module _ {A B : Type 0} where
  -- one of two tests passes
  pub or_iff : (a b : Bool) → T a ↔ A → T b ↔ B → T (a || b) ↔ (A ⊎ B)
  or_iff true b f g = (λ h. inl (f.0 h), λ x. tt)
  or_iff false b f g = (λ h. inr (g.0 h), ⊎_elim (λ x. absurd (f.1 x)) g.1)

  -- both of two tests pass
  pub and_iff : (a b : Bool) → T a ↔ A → T b ↔ B → T (a && b) ↔ (A × B)
  and_iff true b f g = (λ h. (f.0 tt, g.0 h), λ x. g.1 x.1)
  and_iff false b f g = (λ h. absurd h, λ x. f.1 x.0)

pub or_left : (a b : Bool) → T a → T (a || b)
or_left a b h = (or_iff a b Iff.rfl Iff.rfl).1 (inl h)

pub eqb_iff : (m n : ℕ) → T (eqb m n) ↔ (m ≡ n)
eqb_iff m n = (eqb→eq m n, eq→eqb)

-- ---- comparisons

-- `>=` is the negation of `<`
pub not_below : (m n : ℕ) → leb n m ≡ not (ltb m n)
not_below m n = by_test (ltb m n) (λ e. rw e (lt-leb n m (ltb-true m n e))) (λ e. rw e (le-leb n m (ltb-false m n e)))

-- below a + 1, and not a
pub one_more : (b a : ℕ) → (b ≡ a → ⊥) → ltb b a ≡ ltb b (a + 1)
one_more b a ne =
    by_test (ltb b a)
    (λ e. e ∙ sym (lt-ltb b (a + 1) (omega (arith, ltb-true b a e))))
    (λ e. e ∙ sym (le-ltb b (a + 1) (omega (arith, ltb-false b a e))))
