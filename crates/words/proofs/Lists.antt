-- Laws of lists of any elements: what holds of each element, elements that are listed, elements in order; and bytes behind a part.
-- Assumes nothing.
use mathlib.Core.Path.{◌≡◌, refl, sym, ap, ◌∙◌}
use mathlib.Core.List.{List, [], ◌∷◌, ◌++◌}
use Prim.Native.Nat.{ℕ, zero, suc, ◌+◌, ◌<◌}
use native.Mathlib.Omega.{arith}
use borrow.Author.Count.{below_more}
use lib.ListN.{length, get_or, drop, length-append, get_or-append}
use lib.Seq.{get_or-append-add, drop-append-add}
use Rattle.words.specs.Tables.{rows}

-- ---- behind a part of n elements

module _ {A : Type 0} (s t : List A) {n : ℕ} (sized : length s ≡ n) (i : ℕ) where
  pub get_d_behind : (d : A) → get_or (s ++ t) (n + i) d ≡ get_or t i d
  get_d_behind d = ap (λ (m : ℕ). get_or (s ++ t) (m + i) d) (sym sized) ∙ get_or-append-add s t i d

  pub drop_behind : drop (n + i) (s ++ t) ≡ drop i t
  drop_behind = ap (λ (m : ℕ). drop (m + i) (s ++ t)) (sym sized) ∙ drop-append-add s t i

-- ---- what holds of each element

pub data Each {A : Type 0} (P : A → Type 0) : List A → Type 0 where
  each_none : Each P []
  each_more : {x : A} {s : List A} → P x → Each P s → Each P (x ∷ s)

module _ {A : Type 0} {P : A → Type 0} where
  pub each_append : {s t : List A} → Each P s → Each P t → Each P (s ++ t)
  each_append each_none g = g
  each_append (each_more here f) g = each_more here (each_append f g)

  pub each_rows : (row : ℕ → List A) (n : ℕ) → ((i : ℕ) → i < n → Each P (row i)) → Each P (rows row n)
  unfolding rows
  each_rows row zero f = each_none
  each_rows row (suc n) f = each_append (each_rows row n (λ i h. f i (omega arith))) (f n (omega arith))

  pub each_as : {Q : A → Type 0} {s : List A} → ((x : A) → P x → Q x) → Each P s → Each Q s
  each_as g each_none = each_none
  each_as g (each_more {x} here f) = each_more (g x here) (each_as g f)

  pub each_at : {s : List A} → Each P s → (d : A) (i : ℕ) → i < length s → P (get_or s i d)
  each_at each_none d i h = absurd (omega arith)
  each_at (each_more here f) d zero h = here
  each_at (each_more here f) d (suc i) h = each_at f d i (omega arith)

-- ---- an element that is listed

pub record Listed {A : Type 0} (d x : A) (s : List A) : Type 0 where
  pub place : ℕ
  pub within : place < length s
  pub is : get_or s place d ≡ x

module _ {A : Type 0} {d x : A} where
  pub listed_first : (s : List A) → Listed d x (x ∷ s)
  listed_first s = record { place = 0; within = omega arith; is = refl }

  pub listed_left : (s t : List A) → Listed d x s → Listed d x (s ++ t)
  listed_left s t l = record { place = l.place; within = omega (arith, l.within, length-append s t); is = get_or-append s t d l.place l.within ∙ l.is }

  pub listed_right : (s t : List A) → Listed d x t → Listed d x (s ++ t)
  listed_right s t l = record { place = length s + l.place; within = omega (arith, l.within, length-append s t); is = get_or-append-add s t l.place d ∙ l.is }

  pub listed_row : (row : ℕ → List A) (n i : ℕ) → i < n → Listed d x (row i) → Listed d x (rows row n)
  unfolding rows
  listed_row row zero i h l = absurd (omega arith)
  listed_row row (suc n) i h l =
      below_more (λ j. Listed d x (row j) → Listed d x (rows row n ++ row n)) n
      (λ j g l. listed_left (rows row n) (row n) (listed_row row n j g l))
      (listed_right (rows row n) (row n))
      i (omega arith) l

-- ---- elements in order: each stands before all later ones

pub data InOrder {A : Type 0} (Before : A → A → Type 0) : List A → Type 0 where
  order_none : InOrder Before []
  order_more : {x : A} {s : List A} → Each (Before x) s → InOrder Before s → InOrder Before (x ∷ s)

module _ {A : Type 0} {Before : A → A → Type 0} where
  pub order_append : {s t : List A} → InOrder Before s → InOrder Before t → Each (λ x. Each (Before x) t) s → InOrder Before (s ++ t)
  order_append order_none g across = g
  order_append (order_more here f) g (each_more first across) = order_more (each_append here first) (order_append f g across)

  pub order_rows : (row : ℕ → List A) (n : ℕ) → ((i : ℕ) → i < n → InOrder Before (row i))
      → ((i j : ℕ) → i < j → j < n → Each (λ x. Each (Before x) (row j)) (row i)) → InOrder Before (rows row n)
  unfolding rows
  order_rows row zero each across = order_none
  order_rows row (suc n) each across =
      order_append
      (order_rows row n (λ i h. each i (omega arith)) (λ i j h l. across i j h (omega arith)))
      (each n (omega arith))
      (each_rows row n (λ i h. across i n h (omega arith)))

  pub order_next : {s : List A} → InOrder Before s → (d : A) (i : ℕ) → suc i < length s → Before (get_or s i d) (get_or s (suc i) d)
  order_next order_none d i h = absurd (omega arith)
  order_next (order_more here f) d zero h = each_at here d 0 (omega arith)
  order_next (order_more here f) d (suc i) h = order_next f d i (omega arith)
