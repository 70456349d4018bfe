-- Sums and tests by counting.
-- Assumes nothing.
use Rattle.std.specs.Prelude.{Bool, false, ◌||◌, cond, ℕ, zero, suc, ◌+◌}

-- the sum of the first n sizes
unfoldable pub total : (ℕ → ℕ) → ℕ → ℕ
total size zero = 0
total size (suc i) = total size i + size i

-- how many of the first n a test holds of
abbrev pub count_of : (ℕ → Bool) → ℕ → ℕ
count_of test n = total (λ i. cond (test i) 1 0) n

-- whether a test passes below n
unfoldable pub any_below : (ℕ → Bool) → ℕ → Bool
any_below test zero = false
any_below test (suc n) = any_below test n || test n
