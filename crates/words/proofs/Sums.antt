-- Laws of sums: one more, bounds, sums of sums, and the length of rows; and of tests below a number.
-- Assumes nothing.
use mathlib.Core.Path.{◌≡◌, refl, sym, ap, ap₂, ◌∙◌}
use mathlib.Core.Bool.{Bool, false, ◌||◌, cond}
use mathlib.Core.List.{List}
use Prim.Native.Nat.{ℕ, zero, suc, ◌+◌, ◌*◌, ◌≤◌, ◌<◌}
use native.Mathlib.Nat.{le_refl, zero-mul}
use native.Mathlib.Numerals.{add-one}
use native.Mathlib.Omega.{arith}
use borrow.Author.Count.{below_more}
use borrow.Author.Tests.{eq-eqb, ne_eqb}
use lib.Dec.{eqb}
use lib.ListN.{length, length-append}
use Rattle.words.specs.Sums.{total, count_of, any_below}
use Rattle.words.specs.Tables.{rows}
use Rattle.words.proofs.Tests.{at_cond, neither}

pub total_none : (size : ℕ → ℕ) → 0 ≡ total size 0
unfolding total
total_none size = refl

pub total_more : {sum more : ℕ} (size : ℕ → ℕ) (i : ℕ) → sum ≡ total size i → more ≡ size i → sum + more ≡ total size (i + 1)
unfolding total
total_more size i e f = ap₂ ◌+◌ e f ∙ ap (total size) (sym (add-one i))

pub total_few : (size : ℕ → ℕ) (k : ℕ) → ((i : ℕ) → size i ≤ k) → (n : ℕ) → total size n ≤ k * n
unfolding total
total_few size k few zero = omega arith
total_few size k few (suc n) = omega (arith, few n, total_few size k few n)

-- a test counts for at most one
pub at_most_one : (t : Bool) → cond t 1 0 ≤ 1
at_most_one t = at_cond (λ n. n ≤ 1) t (λ _. omega arith) (λ _. omega arith)

pub count_few : (test : ℕ → Bool) (n : ℕ) → count_of test n ≤ n
count_few test n = omega (arith, total_few (λ i. cond (test i) 1 0) 1 (λ i. at_most_one (test i)) n)

-- ---- sums of sums

pub total_add : (f g : ℕ → ℕ) (n : ℕ) → total (λ i. f i + g i) n ≡ total f n + total g n
unfolding total
total_add f g zero = refl
total_add f g (suc n) = omega (arith, total_add f g n)

pub total_same : (f g : ℕ → ℕ) (n : ℕ) → ((i : ℕ) → i < n → f i ≡ g i) → total f n ≡ total g n
unfolding total
total_same f g zero h = refl
total_same f g (suc n) h = ap₂ ◌+◌ (total_same f g n (λ i l. h i (omega arith))) (h n (omega arith))

pub total_const : (k n : ℕ) → total (λ i. k) n ≡ k * n
unfolding total
total_const k zero = omega arith
total_const k (suc n) = omega (arith, total_const k n)

-- by columns instead of rows
pub total-turned : (f : ℕ → ℕ → ℕ) (m n : ℕ) → total (λ i. total (f i) m) n ≡ total (λ j. total (λ i. f i j) n) m
unfolding total
total-turned f m zero = sym (total_const 0 m ∙ zero-mul m)
total-turned f m (suc n) = ap (λ (k : ℕ). k + total (f n) m) (total-turned f m n) ∙ sym (total_add (λ j. total (λ i. f i j) n) (f n) m)

-- ---- how many pass a test

-- a number below n is one of them, once
count_above : (k n : ℕ) → n ≤ k → count_of (eqb k) n ≡ 0
unfolding total
count_above k zero h = refl
count_above k (suc n) h = rw (ne_eqb k n (λ e. omega arith)) (omega (arith, count_above k n (omega arith)))

pub count_once : (k n : ℕ) → k < n → count_of (eqb k) n ≡ 1
unfolding total
count_once k zero h = absurd (omega arith)
count_once k (suc n) h =
    below_more (λ k. count_of (eqb k) n + cond (eqb k n) 1 0 ≡ 1) n
    (λ k l. rw (ne_eqb k n (λ e. omega arith)) (omega (arith, count_once k n l)))
    (rw (eq-eqb n n refl) (omega (arith, count_above n n (omega arith))))
    k (omega arith)

-- the first does not pass
pub count_later : (test : ℕ → Bool) → test 0 ≡ false → (n : ℕ) → count_of test (suc n) ≤ n
unfolding total
count_later test none zero = rw none (omega arith)
count_later test none (suc n) = omega (arith, count_later test none n, at_most_one (test (suc n)))

-- ---- the length of rows

-- rows of k elements for each that `size` says
pub rows-total : {A : Type 0} (row : ℕ → List A) (size : ℕ → ℕ) (k : ℕ) → ((i : ℕ) → length (row i) ≡ k * size i) → (n : ℕ) → length (rows row n) ≡ k * total size n
unfolding rows total
rows-total row size k wide zero = omega arith
rows-total row size k wide (suc n) = omega (arith, length-append (rows row n) (row n), wide n, rows-total row size k wide n)

-- ---- a test below n

pub any_none : (test : ℕ → Bool) → any_below test 0 ≡ false
unfolding any_below
any_none test = refl

pub any_next : (test : ℕ → Bool) (n : ℕ) {b c : Bool} → b ≡ any_below test n → c ≡ test n → (b || c) ≡ any_below test (n + 1)
unfolding any_below
any_next test n e f = ap₂ ◌||◌ e f ∙ ap (any_below test) (sym (add-one n))

-- where it passes nowhere, each test fails, and the other way round
pub each_fails : (test : ℕ → Bool) (n : ℕ) → any_below test n ≡ false → (i : ℕ) → i < n → test i ≡ false
unfolding any_below
each_fails test zero e i h = absurd (omega arith)
each_fails test (suc n) e i h =
    let p = neither (any_below test n) (test n) e in
    below_more (λ i. test i ≡ false) n (each_fails test n p.0) p.1 i (omega arith)

pub none_below : (test : ℕ → Bool) (n : ℕ) → ((i : ℕ) → i < n → test i ≡ false) → any_below test n ≡ false
unfolding any_below
none_below test zero h = refl
none_below test (suc n) h = rw (none_below test n (λ i l. h i (omega arith)), h n (le_refl (suc n)))
