-- Laws of masks as sets, for any width: a width enters as a number, and only where a complement, a shift or an upper bound does.
-- Assumes nothing.
use mathlib.Core.Path.{◌≡◌, refl, sym, ap, ap₂, ◌∙◌}
use mathlib.Core.Bool.{Bool, true, false, not, ◌&&◌, ◌||◌, cond, true≢false}
use mathlib.Core.Logic.{⊎_elim}
use Prim.Native.Nat.{ℕ, zero, suc, ◌+◌, ◌-◌, ◌*◌, ◌/◌, ◌%◌, ◌^◌, ◌≤◌, ◌<◌, suc-le-suc, min, max}
use native.Mathlib.Nat.{eq-zero-or-pos, eq-or-lt_of_le, le_of_suc-le-suc, div-eq_of_lt, div-one, one-mul, lt_of_lt_of_le, mod-lt, pow-suc, zero-lt-suc, suc_inj}
use native.Mathlib.Omega.{arith}
use borrow.Author.Tests.{eqb-true, ltb-true, lt-ltb, eq-eqb}
use lib.Dec.{eqb, lit<, eqb-zero-suc, eqb-suc-zero, eqb-suc-suc}
use lib.Bits.{bit_and, bit_or, and_step, or_step, and_shr, or_shr, and_le_l, and_comm, and_mask, or_add_and}
use lib.Pow.{pow_mono, pow_pos, shr-shr, shl_exact}
use lib.Count.{ones, ones_step, ones-le, count_trailing_zeros, under, trailing_le}
use Rattle.sets.specs.Sets.{bit, has, minus, Two, several}

-- ---- one bit

pub bit_lt : (m k : ℕ) → bit m k < 2
unfolding bit
bit_lt m k = mod-lt (m / 2 ^ k) (lit< tt)

-- bit 0 is the lowest digit, and bit k + 1 is bit k of the half
pub bit_zero : (m : ℕ) → bit m 0 ≡ m % 2
unfolding bit
bit_zero m = ap (λ (n : ℕ). n % 2) (div-one m)

bit_suc : (m k : ℕ) → bit m (suc k) ≡ bit (m / 2) k
unfolding bit
bit_suc m k =
    let e : m / 2 ^ suc k ≡ m / 2 / 2 ^ k = ap (λ (p : ℕ). m / 2 ^ p) (omega arith) ∙ sym (shr-shr m 1 k) in
    ap (λ (n : ℕ). n % 2) e

pub has-bit : (m k : ℕ) → has m k ≡ true → bit m k ≡ 1
unfolding has
has-bit m k h = eqb-true (bit m k) 1 h

bit-has : (m k : ℕ) → bit m k ≡ 1 → has m k ≡ true
unfolding has
bit-has m k h = eq-eqb (bit m k) 1 h

-- a bit that is 0
no_bit : (m k : ℕ) → bit m k ≡ 0 → has m k ≡ false
unfolding has
no_bit m k e = ap (λ (x : ℕ). eqb x 1) e

-- a mask shifted down
pub has_shr : (m j k : ℕ) → has (m / 2 ^ j) k ≡ has m (j + k)
unfolding has bit
has_shr m j k = ap (λ (x : ℕ). eqb (x % 2) 1) (shr-shr m j k)

has_suc : (m k : ℕ) → has m (suc k) ≡ has (m / 2) k
unfolding has
has_suc m k = ap (λ (n : ℕ). eqb n 1) (bit_suc m k)

-- ---- members of union, intersection, difference

-- a union is empty where both are
pub or_none : (a b : ℕ) → bit_or a b ≡ 0 → (a ≡ 0) × (b ≡ 0)
or_none a b e = (omega (arith, or_add_and a b, and_comm a b, and_le_l b a), omega (arith, or_add_and a b, and_le_l a b))

or_odd : (x y : ℕ) → bit_or x y % 2 ≡ max (x % 2) (y % 2)
or_odd x y = omega (arith, or_step x y)

and_odd : (x y : ℕ) → bit_and x y % 2 ≡ min (x % 2) (y % 2)
and_odd x y = omega (arith, and_step x y)

pub bit_or_lem : (a b k : ℕ) → bit (bit_or a b) k ≡ max (bit a k) (bit b k)
unfolding bit
bit_or_lem a b k = ap (λ (n : ℕ). n % 2) (or_shr a b k) ∙ or_odd (a / 2 ^ k) (b / 2 ^ k)

pub bit_and_lem : (a b k : ℕ) → bit (bit_and a b) k ≡ min (bit a k) (bit b k)
unfolding bit
bit_and_lem a b k = ap (λ (n : ℕ). n % 2) (and_shr a b k) ∙ and_odd (a / 2 ^ k) (b / 2 ^ k)

-- the parts of a difference, digit by digit
minus_step : (a b : ℕ) → minus a b ≡ minus (a / 2) (b / 2) * 2 + (a % 2 - min (a % 2) (b % 2))
unfolding minus
minus_step a b = omega (arith, and_step a b, and_le_l (a / 2) (b / 2))

minus_half : (a b : ℕ) → minus a b / 2 ≡ minus (a / 2) (b / 2)
minus_half a b = omega (arith, minus_step a b)

pub bit-minus : (a b k : ℕ) → bit (minus a b) k ≡ bit a k - min (bit a k) (bit b k)
bit-minus a b zero = simp bit_zero (omega (arith, minus_step a b))
bit-minus a b (suc k) =
    bit_suc (minus a b) k ∙ ap (λ (n : ℕ). bit n k) (minus_half a b) ∙ bit-minus (a / 2) (b / 2) k
    ∙ ap₂ (λ (x y : ℕ). x - min x y) (sym (bit_suc a k)) (sym (bit_suc b k))

-- what holds of the digits 0 and 1 holds of two digits
by_digits : (P : ℕ → ℕ → Type 0) → P 0 0 → P 0 1 → P 1 0 → P 1 1 → (x y : ℕ) → x < 2 → y < 2 → P x y
by_digits P a b c d zero zero hx hy = a
by_digits P a b c d zero (suc zero) hx hy = b
by_digits P a b c d (suc zero) zero hx hy = c
by_digits P a b c d (suc zero) (suc zero) hx hy = d
by_digits P a b c d zero (suc (suc y)) hx hy = absurd (omega arith)
by_digits P a b c d (suc zero) (suc (suc y)) hx hy = absurd (omega arith)
by_digits P a b c d (suc (suc x)) y hx hy = absurd (omega arith)

-- tests of digits
max_or : (x y : ℕ) → x < 2 → y < 2 → eqb (max x y) 1 ≡ (eqb x 1 || eqb y 1)
max_or = by_digits (λ x y. eqb (max x y) 1 ≡ (eqb x 1 || eqb y 1)) refl refl refl refl

min_and : (x y : ℕ) → x < 2 → y < 2 → eqb (min x y) 1 ≡ (eqb x 1 && eqb y 1)
min_and = by_digits (λ x y. eqb (min x y) 1 ≡ (eqb x 1 && eqb y 1)) refl refl refl refl

sub_not : (x y : ℕ) → x < 2 → y < 2 → eqb (x - min x y) 1 ≡ (eqb x 1 && not (eqb y 1))
sub_not = by_digits (λ x y. eqb (x - min x y) 1 ≡ (eqb x 1 && not (eqb y 1))) refl refl refl refl

pub has_or : (a b k : ℕ) → has (bit_or a b) k ≡ (has a k || has b k)
unfolding has
has_or a b k = ap (λ (n : ℕ). eqb n 1) (bit_or_lem a b k) ∙ max_or (bit a k) (bit b k) (bit_lt a k) (bit_lt b k)

pub has_and : (a b k : ℕ) → has (bit_and a b) k ≡ (has a k && has b k)
unfolding has
has_and a b k = ap (λ (n : ℕ). eqb n 1) (bit_and_lem a b k) ∙ min_and (bit a k) (bit b k) (bit_lt a k) (bit_lt b k)

pub has-minus : (a b k : ℕ) → has (minus a b) k ≡ (has a k && not (has b k))
unfolding has
has-minus a b k = ap (λ (n : ℕ). eqb n 1) (bit-minus a b k) ∙ sub_not (bit a k) (bit b k) (bit_lt a k) (bit_lt b k)

-- ---- members of the empty set, of sets made of one member or by a test, of a full set; what lies outside a width

pub bit_none : (k : ℕ) → bit 0 k ≡ 0
unfolding bit
bit_none zero = refl
bit_none (suc k) = bit_suc 0 k ∙ bit_none k

pub has_zero : (k : ℕ) → has 0 k ≡ false
unfolding has
has_zero k = ap (λ (n : ℕ). eqb n 1) (bit_none k)

half_pow : (j : ℕ) → 2 ^ suc j / 2 ≡ 2 ^ j
half_pow j = omega (arith, pow-suc 2 j)

pub has_single : (j k : ℕ) → has (2 ^ j) k ≡ eqb j k
unfolding has bit
has_single zero zero = refl
has_single zero (suc k) = has_suc 1 k ∙ has_zero k ∙ sym (eqb-zero-suc k)
has_single (suc j) zero =
    ap (λ (n : ℕ). eqb n 1) (bit_zero (2 ^ suc j) ∙ (let e : 2 ^ suc j % 2 ≡ 0 = omega (arith, pow-suc 2 j) in e))
    ∙ sym (eqb-suc-zero j)
has_single (suc j) (suc k) =
    has_suc (2 ^ suc j) k ∙ ap (λ (n : ℕ). has n k) (half_pow j) ∙ has_single j k ∙ sym (eqb-suc-suc j k)

-- of a set of one member
pub single_is : (j k : ℕ) → has (2 ^ j) k ≡ true → j ≡ k
single_is j k h = eqb-true j k (sym (has_single j k) ∙ h)

-- of a set with one more member
pub has_with : (m t k : ℕ) → has (bit_or m (2 ^ t)) k ≡ (has m k || eqb t k)
has_with m t k = simp (has_or, has_single)

-- of a set that is there where a test passes, and empty elsewhere
pub has-cond : (b : Bool) (m k : ℕ) → has (cond b m 0) k ≡ (b && has m k)
has-cond true m k = refl
has-cond false m k = has_zero k

-- of a full set
pub has_full : (w k : ℕ) → k < w → has (2 ^ w - 1) k ≡ true
has_full zero k h = absurd (omega arith)
has_full (suc w) zero h = bit-has _ 0 (omega (arith, bit_zero (2 ^ suc w - 1), pow-suc 2 w, pow_pos w))
has_full (suc w) (suc k) h =
    let e : (2 ^ suc w - 1) / 2 ≡ 2 ^ w - 1 = omega (arith, pow-suc 2 w) in
    has_suc _ k ∙ ap (λ (m : ℕ). has m k) e ∙ has_full w k (le_of_suc-le-suc h)

-- of a set that is full where a test passes, and empty elsewhere
pub has_full_if : (w k : ℕ) → k < w → (b : Bool) → has (cond b (2 ^ w - 1) 0) k ≡ b
has_full_if w k h true = has_full w k h
has_full_if w k h false = has_zero k

pub has_out : (w m k : ℕ) → m < 2 ^ w → w ≤ k → has m k ≡ false
unfolding has bit
has_out w m k h le =
    ap (λ (n : ℕ). eqb (n % 2) 1) (div-eq_of_lt (lt_of_lt_of_le h (pow_mono le)))

-- ---- two masks with the same members are equal

half_fits : (w m : ℕ) → m < 2 ^ suc w → m / 2 < 2 ^ w
half_fits w m h = omega (arith, pow-suc 2 w)

pub same_members : (w a b : ℕ) → a < 2 ^ w → b < 2 ^ w → ((k : ℕ) → k < w → has a k ≡ has b k) → a ≡ b
unfolding has
same_members zero a b ha hb e = omega arith
same_members (suc w) a b ha hb e =
    let low : a % 2 ≡ b % 2 = digit (a % 2) (b % 2) (mod-lt a (lit< tt)) (mod-lt b (lit< tt)) (has_low (e 0 (zero-lt-suc w))) in
    let high : a / 2 ≡ b / 2 = same_members w (a / 2) (b / 2) (half_fits w a ha) (half_fits w b hb) (λ k h. sym (has_suc a k) ∙ e (suc k) (suc-le-suc h) ∙ has_suc b k) in
    omega arith
  where
    has_low : has a 0 ≡ has b 0 → eqb (a % 2) 1 ≡ eqb (b % 2) 1
    has_low h = ap (λ (n : ℕ). eqb n 1) (sym (bit_zero a)) ∙ h ∙ ap (λ (n : ℕ). eqb n 1) (bit_zero b)

    digit : (x y : ℕ) → x < 2 → y < 2 → eqb x 1 ≡ eqb y 1 → x ≡ y
    digit = by_digits (λ x y. eqb x 1 ≡ eqb y 1 → x ≡ y) (λ h. refl) (λ h. absurd (true≢false (sym h))) (λ h. absurd (true≢false h)) (λ h. refl)

-- a mask is below a power of two
pub under_power : (m : ℕ) → m < 2 ^ m
under_power zero = omega arith
under_power (suc m) = omega (arith, pow-suc 2 m, under_power m)

-- what stays where all but b goes is what both have
pub minus_minus : (a b : ℕ) → minus a (minus a b) ≡ bit_and a b
unfolding minus has
minus_minus a b =
    same_members a (minus a (minus a b)) (bit_and a b) (omega (arith, under_power a)) (omega (arith, under_power a, and_le_l a b))
    (λ k _. ap (λ (x : ℕ). eqb x 1)
    (let e : bit (minus a (minus a b)) k ≡ bit (bit_and a b) k = omega (arith, bit-minus a (minus a b) k, bit-minus a b k, bit_and_lem a b k, bit_lt a k, bit_lt b k) in e))

-- ---- what the machine's operations give

-- `a & !b` at width w
pub minus-mask : (w a b : ℕ) → a < 2 ^ w → b < 2 ^ w → bit_and a (2 ^ w - 1 - b) ≡ minus a b
unfolding minus
minus-mask zero a b ha hb =
    let none : a ≡ 0 = omega arith in
    let none' : b ≡ 0 = omega arith in
    ap₂ (λ (x y : ℕ). bit_and x (2 ^ 0 - 1 - y)) none none' ∙ ap₂ (λ (x y : ℕ). minus x y) (sym none) (sym none')
minus-mask (suc w) a b ha hb =
    let low : (2 ^ suc w - 1 - b) % 2 ≡ 1 - b % 2 = omega (arith, pow-suc 2 w) in
    let high : (2 ^ suc w - 1 - b) / 2 ≡ 2 ^ w - 1 - b / 2 = omega (arith, pow-suc 2 w) in
    let rest : bit_and (a / 2) ((2 ^ suc w - 1 - b) / 2) ≡ minus (a / 2) (b / 2) =
    ap (λ (n : ℕ). bit_and (a / 2) n) high ∙ minus-mask w (a / 2) (b / 2) (half_fits w a ha) (half_fits w b hb) in
    and_step a (2 ^ suc w - 1 - b)
    ∙ ap₂ (λ (x y : ℕ). x * 2 + min (a % 2) y) rest low
    ∙ ap (λ (n : ℕ). minus (a / 2) (b / 2) * 2 + n) (kept_digit (a % 2) (b % 2) (mod-lt a (lit< tt)) (mod-lt b (lit< tt)))
    ∙ sym (minus_step a b)
  where
    kept_digit : (x y : ℕ) → x < 2 → y < 2 → min x (1 - y) ≡ x - min x y
    kept_digit x y hx hy = omega arith

-- `(m >> k) & 1`
pub test_shift : (m k : ℕ) → bit_and (m / 2 ^ k) 1 ≡ bit m k
unfolding bit
test_shift m k = and_mask (m / 2 ^ k) 1

-- `1 << k` at width w
pub one_shl : (w k : ℕ) → k < w → (1 * 2 ^ k) % 2 ^ w ≡ 2 ^ k
one_shl w k h = shl_exact 1 k w (lit< tt) (omega arith) ∙ one-mul (2 ^ k)

-- ---- the lowest member

-- of a set that is not empty
pub lowest_has : (w m : ℕ) → 0 < m → m < 2 ^ w → has m (count_trailing_zeros w m) ≡ true
unfolding count_trailing_zeros
lowest_has zero m some fits = absurd (omega arith)
lowest_has (suc w) m some fits = go (m % 2) refl (λ half. lowest_has w (m / 2) half (omega (arith, pow-suc 2 w)))
  where
    go : (d : ℕ) → m % 2 ≡ d → (0 < m / 2 → has (m / 2) (count_trailing_zeros w (m / 2)) ≡ true) → has m (under d (count_trailing_zeros w (m / 2))) ≡ true
    go zero e half = has_suc m (count_trailing_zeros w (m / 2)) ∙ half (omega arith)
    go (suc d) e half = bit-has m 0 (omega (arith, bit_zero m))

-- and nothing below them is
pub lowest_none : (w m k : ℕ) → k < count_trailing_zeros w m → has m k ≡ false
unfolding count_trailing_zeros
lowest_none zero m k h = absurd (omega arith)
lowest_none (suc w) m k h = go (m % 2) refl (lowest_none w (m / 2)) k h
  where
    go : (d : ℕ) → m % 2 ≡ d → ((j : ℕ) → j < count_trailing_zeros w (m / 2) → has (m / 2) j ≡ false) → (j : ℕ) → j < under d (count_trailing_zeros w (m / 2)) → has m j ≡ false
    go zero e half zero l = no_bit m 0 (bit_zero m ∙ e)
    go zero e half (suc j) l = has_suc m j ∙ half j (le_of_suc-le-suc l)
    go (suc d) e half j l = absurd (omega arith)

pub lowest_below : (w m : ℕ) → 0 < m → m < 2 ^ w → count_trailing_zeros w m < w
lowest_below w m some fits =
    ⊎_elim (λ (e : count_trailing_zeros w m ≡ w). absurd (true≢false (sym (lowest_has w m some fits) ∙ has_out w m (count_trailing_zeros w m) fits (omega arith)))) (λ h. h)
    (eq-or-lt_of_le (trailing_le w m))

-- ---- counting members

count_one : (m k : ℕ) → has m k ≡ true → 1 ≤ ones m
count_one m zero h = omega (arith, ones_step m, bit_zero m, has-bit m 0 h)
count_one m (suc k) h = omega (arith, ones_step m, count_one (m / 2) k (sym (has_suc m k) ∙ h))

count_two : (m j k : ℕ) → (j ≡ k → ⊥) → has m j ≡ true → has m k ≡ true → 2 ≤ ones m
count_two m zero zero n hj hk = absurd (n refl)
count_two m zero (suc k) n hj hk = omega (arith, ones_step m, bit_zero m, has-bit m 0 hj, count_one (m / 2) k (sym (has_suc m k) ∙ hk))
count_two m (suc j) zero n hj hk = omega (arith, ones_step m, bit_zero m, has-bit m 0 hk, count_one (m / 2) j (sym (has_suc m j) ∙ hj))
count_two m (suc j) (suc k) n hj hk =
    omega (arith, ones_step m, count_two (m / 2) j k (λ e. n (ap suc e)) (sym (has_suc m j) ∙ hj) (sym (has_suc m k) ∙ hk))

find_one : (w m : ℕ) → m < 2 ^ w → 1 ≤ ones m → (k : ℕ) × (has m k ≡ true)
find_one w m h c =
    let some : 0 < m = ⊎_elim (λ (e : m ≡ 0). absurd (omega (arith, c, ones-le 0 m (omega arith)))) (λ s. s) (eq-zero-or-pos m) in
    (count_trailing_zeros w m, lowest_has w m some h)

find_two : (w m : ℕ) → m < 2 ^ w → 2 ≤ ones m → Two m
find_two zero m h c = absurd (omega (arith, ones-le 0 m h))
find_two (suc w) m h c = go (m % 2) refl (λ few. find_two w (m / 2) (half_fits w m h) few)
  where
    go : (d : ℕ) → m % 2 ≡ d → (2 ≤ ones (m / 2) → Two (m / 2)) → Two m
    go zero e half =
        let t = half (omega (arith, ones_step m)) in
        record {
          first = suc t.first;
          second = suc t.second;
          differ = λ e. t.differ (suc_inj e);
          has_first = has_suc m t.first ∙ t.has_first;
          has_second = has_suc m t.second ∙ t.has_second;
        }
    go (suc d) e half =
        let r = find_one w (m / 2) (half_fits w m h) (omega (arith, ones_step m, mod-lt m {m = 2} (lit< tt))) in
        record {
          first = 0;
          second = suc r.0;
          differ = λ e. absurd (omega arith);
          has_first = bit-has m 0 (omega (arith, bit_zero m, mod-lt m {m = 2} (lit< tt)));
          has_second = has_suc m r.0 ∙ r.1;
        }

-- two different members are there exactly if more than one is counted
pub several_two : (w m : ℕ) → m < 2 ^ w → several m ≡ true → Two m
several_two w m h c = find_two w m h (ltb-true 1 (ones m) c)

pub two_several : (m : ℕ) → Two m → several m ≡ true
two_several m t = lt-ltb 1 (ones m) (count_two m t.first t.second t.differ t.has_first t.has_second)
