-- Laws of lists built by counting, and of stores in lists.
-- Assumes nothing.
use mathlib.Core.Path.{◌≡◌, refl, sym, ap, ap₂, ◌∙◌}
use mathlib.Core.List.{List, [], ◌∷◌, ◌++◌}
use Prim.Native.Nat.{ℕ, zero, suc, ◌+◌, ◌*◌, ◌≤◌, ◌<◌, zero-le}
use native.Mathlib.Nat.{mul_comm, mul-le-mul_right}
use native.Mathlib.Numerals.{add-one}
use native.Mathlib.Omega.{arith}
use borrow.Author.Count.{below_more}
use lib.ListN.{length, get_or, set, replicate, length-append, get_or-append}
use lib.Seq.{get_or_at}
use Rattle.words.specs.Tables.{table, rows}
use Rattle.words.proofs.Lists.{get_d_behind}

-- ---- stores

-- what holds of the stored element at its index, and of each old one, holds after a store
pub at_set : (Q : ℕ → ℕ → Type 0) (s : List ℕ) (i m v : ℕ) → Q i m → Q v (get_or s v 0) → Q v (get_or (set s i m) v 0)
at_set Q [] i m v new old = old
at_set Q (x ∷ s) zero m zero new old = new
at_set Q (x ∷ s) zero m (suc v) new old = old
at_set Q (x ∷ s) (suc i) m zero new old = old
at_set Q (x ∷ s) (suc i) m (suc v) new old = at_set (λ u. Q (suc u)) s i m v new old

-- a list of zeros has 0 everywhere
pub zeros_at : (n v : ℕ) → ◌≡◌ {A = ℕ} (get_or (replicate n 0) v 0) 0
zeros_at zero v = refl
zeros_at (suc n) zero = refl
zeros_at (suc n) (suc v) = zeros_at n v

-- ---- rows

-- what the rows before n leave for row i
pub rows_fit : (row : ℕ → List ℕ) (n i : ℕ) → i < n → length (rows row i) + length (row i) ≤ length (rows row n)
unfolding rows
rows_fit row zero i h = absurd (omega arith)
rows_fit row (suc n) i h =
    below_more (λ j. length (rows row j) + length (row j) ≤ length (rows row (suc n))) n
    (λ j l. omega (arith, length-append (rows row n) (row n), rows_fit row n j l))
    (omega (arith, length-append (rows row n) (row n)))
    i (omega arith)

-- rows of equal lists are equal
pub rows_same : {A : Type 0} (f g : ℕ → List A) (n : ℕ) → ((i : ℕ) → i < n → f i ≡ g i) → rows f n ≡ rows g n
unfolding rows
rows_same f g zero same = refl
rows_same f g (suc n) same = ap₂ ◌++◌ (rows_same f g n (λ i h. same i (omega arith))) (same n (omega arith))

-- rows without entries are none
pub rows_empty : {A : Type 0} (row : ℕ → List A) (n : ℕ) → ((i : ℕ) → i < n → row i ≡ []) → rows row n ≡ []
unfolding rows
rows_empty row zero none = refl
rows_empty row (suc n) none = ap₂ ◌++◌ (rows_empty row n (λ i h. none i (omega arith))) (none n (omega arith))

pub rows_more : (row : ℕ → List ℕ) (i : ℕ) → rows row i ++ row i ≡ rows row (i + 1)
unfolding rows
rows_more row i = ap (λ (j : ℕ). rows row j) (sym (add-one i))

-- no row is longer than w
pub rows_most : (row : ℕ → List ℕ) (w : ℕ) → ((i : ℕ) → length (row i) ≤ w) → (n : ℕ) → length (rows row n) ≤ w * n
unfolding rows
rows_most row w each zero = zero-le
rows_most row w each (suc n) = omega (arith, length-append (rows row n) (row n), each n, rows_most row w each n)

-- rows of one width
pub rows-length : (row : ℕ → List ℕ) (w : ℕ) → ((i : ℕ) → length (row i) ≡ w) → (n : ℕ) → length (rows row n) ≡ w * n
unfolding rows
rows-length row w wide zero = omega arith
rows-length row w wide (suc n) = omega (arith, length-append (rows row n) (row n), wide n, rows-length row w wide n)

-- and their elements
pub rows_at : (row : ℕ → List ℕ) (w : ℕ) → ((i : ℕ) → length (row i) ≡ w) → (n i a : ℕ) → i < n → a < w → get_or (rows row n) (i * w + a) 0 ≡ get_or (row i) a 0
unfolding rows
rows_at row w wide zero i a h l = absurd (omega arith)
rows_at row w wide (suc n) i a h l =
    let sized : length (rows row n) ≡ n * w = rows-length row w wide n ∙ mul_comm w n in
    below_more (λ j. get_or (rows row n ++ row n) (j * w + a) 0 ≡ get_or (row j) a 0) n
    (λ j g. get_or-append (rows row n) (row n) 0 (j * w + a) (omega (arith, mul-le-mul_right w g)) ∙ rows_at row w wide n j a g l)
    (get_d_behind (rows row n) (row n) sized a 0)
    i (omega arith)

-- ---- tables of numbers: rows of one

pub table-length : (f : ℕ → ℕ) (n : ℕ) → length (table f n) ≡ n
table-length f n = omega (arith, rows-length (λ i. f i ∷ []) 1 (λ i. refl) n)

pub table_at : (f : ℕ → ℕ) (n v : ℕ) → v < n → get_or (table f n) v 0 ≡ f v
unfolding rows
table_at f zero v h = absurd (omega arith)
table_at f (suc n) v h =
    below_more (λ u. get_or (table f (suc n)) u 0 ≡ f u) n
    (λ u l. get_or-append (table f n) (f n ∷ []) 0 u (omega (arith, table-length f n)) ∙ table_at f n u l)
    (get_or_at (table f n) (f n) [] 0 n (table-length f n))
    v (omega arith)
