-- What a label does to the live versions and their stamps.
-- Assumes nothing.
use mathlib.Core.Path.{◌≡◌, refl, sym, ap, subst, ◌∙◌}
use mathlib.Core.Bool.{Bool, true, false, not, ◌&&◌, ◌||◌, true≢false, or-true, or-false, and-false}
use mathlib.Core.List.{List}
use Prim.Native.Nat.{ℕ, zero, suc, ◌<◌, ◌^◌}
use native.Mathlib.Omega.{arith}
use borrow.Author.Tests.{eqb-true, eqb-false, eq-eqb, not-false}
use lib.Dec.{eqb}
use lib.ListN.{length, get_or, set}
use lib.Seq.{get_or-set_same, get_or-set_other}
use Rattle.labels.specs.declared.Use.{Use}
use Rattle.labels.specs.Uses.{is_n}
use Rattle.words.proofs.Tests.{at_cond, by_test, and_left}
use Rattle.state.proofs.States.{copies_current}
use Rattle.sets.specs.Sets.{has, minus, width}
use Rattle.sets.proofs.Laws.{has_or, has-minus, has_single, has_with, has-cond}
use Rattle.state.specs.States.{State, has_current, stamp_of}
use Rattle.state.specs.Cleaning.{current_set, dying, cleared, cleaned}
use Rattle.state.specs.Moves.{moves, copies_stamp, moved, is_d, target_stamp}

-- every live version has the stamp x
abbrev pub Agree : State → ℕ → Type 0
Agree s x = (k : ℕ) → has s.live k ≡ true → stamp_of s k ≡ x

-- the current version is live; where none is current, the stamp to hand on is 0
pub record Sits (s : State) (x : ℕ) : Type 0 where
  pub lives : has_current s ≡ true → has s.live s.current ≡ true
  pub bare : has_current s ≡ false → x ≡ 0

-- ---- the cleaning

-- a cleared stamp list keeps the stamps of the versions that are not dead
pub cleared_keeps : (dead : ℕ) (stamps : List ℕ) (n k : ℕ) → has dead k ≡ false → get_or (cleared dead stamps n) k 0 ≡ get_or stamps k 0
unfolding cleared
cleared_keeps dead stamps zero k h = refl
cleared_keeps dead stamps (suc n) k h =
    let other = cleared_keeps dead stamps n k h in
    at_cond (λ (l : List ℕ). get_or l k 0 ≡ get_or stamps k 0) (has dead n)
    (λ d. get_or-set_other (cleared dead stamps n) n k 0 0 (λ e. true≢false (cc)) ∙ other)
    (λ d. other)

-- whether a version is the current one
pub current_has : (s : State) (k : ℕ) → has (current_set s) k ≡ (has_current s && eqb s.current k)
current_has s k = has-cond (has_current s) (2 ^ s.current) k ∙ ap (λ (b : Bool). has_current s && b) (has_single s.current k)

-- k is in the kept set, or current
abbrev pub spares : ℕ → State → ℕ → Bool
spares keep s k = has keep k || has_current s && eqb s.current k

-- what is live and spared stays, with its stamp
stays : (a b : Bool) → (a && not (a && not b)) ≡ (a && b)
stays true true = refl
stays true false = refl
stays false b = refl

spared : (a b c : Bool) → (a && b) ≡ true → (a && not b && not c) ≡ false
spared true true c h = refl
spared true false c h = cc
spared false b c h = refl

module _ (own keep : ℕ) (s : State) where
  pub cleaned-has : (k : ℕ) → has (cleaned own keep s).live k ≡ (has s.live k && spares keep s k)
  unfolding cleaned
  cleaned-has k = simp (has-minus, has_or, current_has, stays)

  pub cleaned_stamp : (k : ℕ) → has (cleaned own keep s).live k ≡ true → stamp_of (cleaned own keep s) k ≡ stamp_of s k
  unfolding cleaned
  cleaned_stamp k h =
      cleared_keeps (minus (dying keep s) own) s.stamps width k
      (simp (has-minus, has_or, current_has) (spared (has s.live k) (spares keep s k) (has own k) (sym (cleaned-has k) ∙ h)))

  -- the caller's version keeps its stamp
  pub cleaned_own : (k : ℕ) → has own k ≡ true → stamp_of (cleaned own keep s) k ≡ stamp_of s k
  unfolding cleaned
  cleaned_own k h = cleared_keeps (minus (dying keep s) own) s.stamps width k (simp (has-minus, h, and-false))

  pub cleaned_agree : {x : ℕ} → Agree s x → Agree (cleaned own keep s) x
  cleaned_agree a k h = cleaned_stamp k h ∙ a k (and_left _ _ (sym (cleaned-has k) ∙ h))

  pub cleaned_sits : {x : ℕ} → Sits s x → Sits (cleaned own keep s) x
  unfolding cleaned
  cleaned_sits c = record { lives = λ (h : has_current s ≡ true). cleaned-has s.current ∙ simp (c.lives h, h, eq-eqb, or-true); bare = c.bare }

-- ---- the move

module _ (u : Use) (t : ℕ) (s : State) where
  taken_stamp : {x : ℕ} → is_d u ≡ false → moves u t s ≡ true → Agree s x → Sits s x → target_stamp u t (stamp_of s s.current) s ≡ x
  unfolding copies_stamp
  taken_stamp {x} d m a c =
      at_cond (λ (n : ℕ). n ≡ x) (copies_stamp u t s)
      (λ h. a s.current (c.lives (copies_current u t s h)))
      (λ h. at_cond (λ (n : ℕ). n ≡ x) (has s.live t) (a t) (λ g. sym (c.bare (cc))))

  pub moved_agree : {x : ℕ} → t < length s.stamps → is_d u ≡ false → Agree s x → Sits s x → Agree (moved u t s) x
  unfolding moved
  moved_agree {x} f d a c =
      at_cond (λ (s' : State). Agree s' x) (moves u t s)
      (λ m k h.
      let y = target_stamp u t (stamp_of s s.current) s in
      by_test (eqb t k)
      (λ e. subst (λ (j : ℕ). get_or (set s.stamps t y) j 0 ≡ x) (eqb-true t k e) (get_or-set_same s.stamps t y 0 f ∙ taken_stamp d m a c))
      (λ e. get_or-set_other s.stamps t k y 0 (λ g. eqb-false t k e (sym g)) ∙ a k (cc (has_with s.live t k, or-false (has s.live k)))))
      (λ m. a)

  -- a version's stamp stays, or is what is handed on
  pub moved_stamp : {x : ℕ} (k : ℕ) → t < length s.stamps → is_d u ≡ false → Agree s x → Sits s x → stamp_of s k ≡ x → stamp_of (moved u t s) k ≡ x
  unfolding moved
  moved_stamp {x} k f d a c g =
      at_cond (λ (s' : State). stamp_of s' k ≡ x) (moves u t s)
      (λ m.
      let y = target_stamp u t (stamp_of s s.current) s in
      by_test (eqb t k)
      (λ e. subst (λ (j : ℕ). get_or (set s.stamps t y) j 0 ≡ x) (eqb-true t k e) (get_or-set_same s.stamps t y 0 f ∙ taken_stamp d m a c))
      (λ e. get_or-set_other s.stamps t k y 0 (λ g. eqb-false t k e (sym g)) ∙ g))
      (λ m. g)

  pub moved_sits : {x : ℕ} → t < width → Sits s x → Sits (moved u t s) x
  unfolding moved
  moved_sits {x} f c =
      at_cond (λ (s' : State). Sits s' x) (moves u t s)
      (λ m. record {
        lives = λ _. cc (has_with s.live t t, eq-eqb t t refl, or-true (has s.live t));
        bare = λ h. absurd (omega (arith, eqb-true t 255 (not-false _ h)));
      })
      (λ m. c)

  pub moved_to : is_n u ≡ false → (moved u t s).current ≡ t
  unfolding moved
  moved_to n = at_cond (λ (s' : State). s'.current ≡ t) (moves u t s) (λ m. refl) (λ m. eqb-true s.current t (not-false _ (cc)))
