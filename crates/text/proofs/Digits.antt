-- The digits that `io::decimal` and `io::hex` make are the texts that the contracts name.
-- Assumes nothing.
use mathlib.Core.Path.{◌≡◌, refl, sym, ap, ◌∙◌}
use mathlib.Core.Bool.{Bool, cond}
use mathlib.Core.List.{List, [], ◌∷◌, ◌++◌}
use Prim.Native.Nat.{ℕ, zero, suc, ◌+◌, ◌-◌, ◌/◌, ◌%◌, ◌^◌, ◌≤◌, ◌<◌}
use native.Mathlib.Nat.{le_antisymm, pow-suc, one-le-pow, pow-le-pow_right}
use native.Mathlib.Omega.{arith}
use borrow.Author.Tests.{lt-ltb, le-ltb, leb-true, leb-false}
use lib.Dec.{leb}
use lib.ListN.{length, length-append}
use Rattle.io.specs.Digits.{hex_digit_ascii, last_digits, IsDigitCount}
use Rattle.words.proofs.Tests.{by_test}
use Rattle.text.specs.Text.{decimal_in, decimal, mask_text}

pow_pred : (b k : ℕ) → b ^ (suc k - 1) ≡ b ^ k
pow_pred b k = ap (λ (j : ℕ). b ^ j) (let e : suc k - 1 ≡ k = omega arith in e)

-- ---- decimal: the fewest digits are those without zeros in front

decimal_is : (f k n : ℕ) → IsDigitCount 10 1 n k → k ≤ f → last_digits 10 k n ≡ decimal_in f n
decimal_is f zero n few h = absurd (omega (arith, few.0))
decimal_is zero (suc k) n few h = absurd (omega arith)
decimal_is (suc f) (suc zero) n few h =
    ap (λ (b : Bool). cond b [] (decimal_in f (n / 10)) ++ (hex_digit_ascii (n % 10) ∷ [])) (sym (lt-ltb n 10 (omega (arith, few.1))))
decimal_is (suc f) (suc (suc j)) n few h =
    let big : 10 ^ suc j ≤ n = omega (arith, few.2 (omega arith), pow_pred 10 (suc j)) in
    let front : last_digits 10 (suc j) (n / 10) ≡ decimal_in f (n / 10) = decimal_is
    f
    (suc j)
    (n / 10)
    (omega arith, omega (arith, few.1, pow-suc 10 (suc j)), λ (more : 1 < suc j). omega (arith, big, pow-suc 10 j, pow_pred 10 j))
    (omega arith) in
    ap (λ (l : List ℕ). l ++ (hex_digit_ascii (n % 10) ∷ [])) front
    ∙ ap (λ (b : Bool). cond b [] (decimal_in f (n / 10)) ++ (hex_digit_ascii (n % 10) ∷ [])) (sym (le-ltb n 10 (omega (arith, big, pow-suc 10 j, one-le-pow j 10 (omega arith)))))

-- no more than d digits, if d hold n and no more were asked for
fewest_le : (b least d n k : ℕ) → 0 < b → least ≤ d → IsDigitCount b least n k → n < b ^ d → k ≤ d
fewest_le b least d n k pos l few h =
    by_test (leb k d) (leb-true k d)
    (λ e. absurd (omega (arith, leb-false k d e, few.2 (omega (arith, leb-false k d e)), pow-le-pow_right {n = b} pos {i = d} {j = k - 1} (omega (arith, leb-false k d e)))))

digits_length : (b k n : ℕ) → length (last_digits b k n) ≡ k
digits_length b zero n = refl
digits_length b (suc k) n =
    length-append (last_digits b k (n / b)) (hex_digit_ascii (n % b) ∷ [])
    ∙ (let e : length (last_digits b k (n / b)) + 1 ≡ suc k = omega (arith, digits_length b k (n / b)) in e)

-- ---- the two forms, as the callers use them

pub decimal_text : {n k : ℕ} → IsDigitCount 10 1 n k → n < 2 ^ 64 → last_digits 10 k n ≡ decimal n
unfolding decimal
decimal_text {n} {k} few h = decimal_is 20 k n few (fewest_le 10 1 20 n k (omega arith) (omega arith) few (omega arith))

pub mask_eight : (n k : ℕ) → IsDigitCount 16 8 (n % 4294967296) k → k ≡ 8
mask_eight n k few = le_antisymm (fewest_le 16 8 8 (n % 4294967296) k (omega arith) (omega arith) few (omega arith)) few.0

pub mask_digits : (n k : ℕ) → IsDigitCount 16 8 (n % 4294967296) k → last_digits 16 k (n % 4294967296) ≡ mask_text n
unfolding mask_text
mask_digits n k few = ap (λ (j : ℕ). last_digits 16 j (n % 4294967296)) (mask_eight n k few)

pub decimal-length : {n k : ℕ} → IsDigitCount 10 1 n k → n < 2 ^ 64 → k ≤ 20
decimal-length {n} {k} few h = fewest_le 10 1 20 n k (omega arith) (omega arith) few (omega arith)

pub mask-length : (n : ℕ) → length (mask_text n) ≡ 8
unfolding mask_text
mask-length n = digits_length 16 8 (n % 4294967296)
