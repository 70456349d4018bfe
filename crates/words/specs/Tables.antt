-- Lists built by counting, and a buffer that is written from its front.
-- Assumes nothing.
use Rattle.std.specs.Prelude.{List, [], ◌∷◌, ◌++◌, ℕ, zero, suc, ◌+◌, ◌*◌, length, set, drop}

-- n lists, one after the other
unfoldable pub rows : {A : Type 0} → (ℕ → List A) → ℕ → List A
rows row zero = []
rows row (suc n) = rows row n ++ row n

-- a table of n numbers: rows of one
abbrev pub table : (ℕ → ℕ) → ℕ → List ℕ
table f n = rows (λ i. f i ∷ []) n

-- how the code keeps it: a list with m entries from `at` on replaced
unfoldable pub replaced : {A : Type 0} → List A → ℕ → (ℕ → A) → ℕ → List A
replaced s at f zero = s
replaced s at f (suc a) = set (replaced s at f a) (at + a) (f a)

-- how the code keeps it: a table of eight columns, the entry of row v and column a at 8 v + a, with the first m entries of row v replaced
abbrev pub with_row : List ℕ → ℕ → (ℕ → ℕ) → ℕ → List ℕ
with_row s v f m = replaced s (8 * v) f m

-- a buffer that held `old`, once `done` has been written at its front
abbrev pub wrote : List ℕ → List ℕ → List ℕ
wrote old done = done ++ drop (length done) old
