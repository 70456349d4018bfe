-- Laws of a list in which entries that follow each other are replaced, one after the other.
-- Assumes nothing.
use mathlib.Core.Path.{◌≡◌, refl, sym, ap, ap₂, ◌∙◌}
use mathlib.Core.List.{List}
use Prim.Native.Nat.{ℕ, zero, suc, ◌+◌, ◌≤◌, ◌<◌}
use native.Mathlib.Nat.{le_refl, le_antisymm}
use native.Mathlib.Numerals.{add-one}
use native.Mathlib.Omega.{arith}
use borrow.Author.Count.{below_more}
use lib.ListN.{length, get_or, set, length-set}
use lib.Seq.{set-get_or, get_or-set_same, get_or-set_other}
use Rattle.words.specs.Tables.{replaced}

module _ {A : Type 0} (s : List A) (at : ℕ) (f : ℕ → A) where
  pub replaced-length : (m : ℕ) → length (replaced s at f m) ≡ length s
  unfolding replaced
  replaced-length zero = refl
  replaced-length (suc m) = length-set (replaced s at f m) _ _ ∙ replaced-length m

  -- one more entry
  replaced_next : {t : List A} {k : ℕ} {x : A} (m : ℕ) → t ≡ replaced s at f m → k ≡ at + m → x ≡ f m → set t k x ≡ replaced s at f (m + 1)
  unfolding replaced
  replaced_next {t} {k} {x} m e here is =
      ap₂ (λ (i : ℕ) (y : A). set t i y) here is ∙ ap (λ (l : List A). set l (at + m) (f m)) e ∙ ap (replaced s at f) (sym (add-one m))

  -- the others are as they were
  pub replaced_other : (d : A) (m x : ℕ) → ((a : ℕ) → a < m → x ≡ at + a → ⊥) → get_or (replaced s at f m) x d ≡ get_or s x d
  unfolding replaced
  replaced_other d zero x h = refl
  replaced_other d (suc m) x h = get_or-set_other (replaced s at f m) (at + m) x _ d (h m (le_refl (suc m))) ∙ replaced_other d m x (λ a l. h a (omega arith))

  -- what was replaced
  pub replaced_at : (d : A) (m a : ℕ) {k : ℕ} → k ≡ at + a → a < m → at + m ≤ length s → get_or (replaced s at f m) k d ≡ f a
  unfolding replaced
  replaced_at d zero a e h l = absurd (omega arith)
  replaced_at d (suc m) a e h l =
      ap (λ (k : ℕ). get_or (replaced s at f (suc m)) k d) e
      ∙ below_more (λ x. get_or (replaced s at f (suc m)) (at + x) d ≡ f x) m
      (λ x b. get_or-set_other (replaced s at f m) (at + m) (at + x) _ d (λ e. omega arith) ∙ replaced_at d m x refl b (omega arith))
      (get_or-set_same (replaced s at f m) (at + m) _ d (omega (arith, replaced-length m)))
      a (omega arith)

  -- entries replaced by themselves
  pub replaced_still : (d : A) (m : ℕ) → ((a : ℕ) → a < m → f a ≡ get_or s (at + a) d) → replaced s at f m ≡ s
  unfolding replaced
  replaced_still d zero h = refl
  replaced_still d (suc m) h =
      ap₂ (λ (t : List A) (x : A). set t (at + m) x) (replaced_still d m (λ a l. h a (omega arith))) (h m (le_refl (suc m))) ∙ set-get_or s (at + m) d

-- by the same entries
pub replaced_same : {A : Type 0} (s : List A) (at : ℕ) (f g : ℕ → A) (m : ℕ) → ((a : ℕ) → a < m → f a ≡ g a) → replaced s at f m ≡ replaced s at g m
unfolding replaced
replaced_same s at f g zero same = refl
replaced_same s at f g (suc m) same =
    ap₂ (λ (l : List _) (x : _). set l (at + m) x) (replaced_same s at f g m (λ a h. same a (omega arith))) (same m (le_refl (suc m)))

-- ---- a loop that replaces n entries: m of them have been

pub record Replacing {A : Type 0} (s : List A) (at : ℕ) (f : ℕ → A) (n : ℕ) (t : List A) (m : ℕ) : Type 0 where
  pub within : m ≤ n
  pub sized : length t ≡ length s
  pub is : t ≡ replaced s at f m

pub replacing_begin : {A : Type 0} (s : List A) (at : ℕ) (f : ℕ → A) (n : ℕ) → Replacing s at f n s 0
unfolding replaced
replacing_begin s at f n = record { within = omega arith; sized = refl; is = refl }

module _ {A : Type 0} {s : List A} {at : ℕ} {f : ℕ → A} {n : ℕ} {t : List A} {m : ℕ} (r : Replacing s at f n t m) where
  -- the next entry, which is as it was
  pub replacing_behind : (d : A) {k : ℕ} → k ≡ at + m → get_or t k d ≡ get_or s k d
  replacing_behind d {k} here = ap (λ (l : List A). get_or l k d) r.is ∙ replaced_other s at f d m k (λ a l e. omega arith)

  pub replacing_next : {k : ℕ} {x : A} → m < n → k ≡ at + m → x ≡ f m → Replacing s at f n (set t k x) (m + 1)
  replacing_next l here is = record { within = omega arith; sized = length-set t _ _ ∙ r.sized; is = replaced_next s at f m r.is here is }

  pub replacing_end : n ≤ m → t ≡ replaced s at f n
  replacing_end l = r.is ∙ ap (replaced s at f) (le_antisymm r.within l)
