-- What is passed, by halves: the same in both. Every version where a test fails, and none where it passes.
-- Assumes nothing.
use mathlib.Core.Path.{◌≡◌, refl, sym, ap, subst, ◌∙◌}
use mathlib.Core.Bool.{Bool, true, false, cond}
use mathlib.Core.List.{List}
use Prim.Native.Nat.{ℕ, ◌+◌, ◌*◌, ◌/◌, ◌%◌, ◌^◌, ◌≤◌, ◌<◌}
use native.Mathlib.Decide.{dec_lt}
use native.Mathlib.Omega.{arith}
use lib.Dec.{lit<}
use lib.ListN.{length, get_or, get_or-eq_default}
use Rattle.words.proofs.Tables.{table-length, table_at}
use Rattle.sets.specs.Sets.{every_version, half_width, of_halves, every_half}
use Rattle.flow.specs.Cells.{Cells, NoneBeyond}
use Rattle.halves.specs.Halves.{AreHalves, doubled}

-- in m columns of n vertices
pub record Passing (m n : ℕ) (P : ℕ → ℕ → ℕ) (s : List ℕ) : Type 0 where
  pub size : length s ≡ 8 * n
  pub halves : AreHalves s
  pub cells : Cells m n P (doubled s)

none_or_full : (b : Bool) → cond b 0 every_half < 2 ^ half_width
none_or_full true = lit< tt
none_or_full false = lit< tt

both_halves : (b : Bool) → of_halves (cond b 0 every_half) (cond b 0 every_half) ≡ cond b 0 every_version
both_halves true = refl
both_halves false = refl

module _ {m n : ℕ} (few : m ≤ 8) (test : ℕ → ℕ → Bool) {s : List ℕ} (c : Cells m n (λ a v. cond (test a v) 0 every_half) s) (none : NoneBeyond m n s) where
  small : {x y : ℕ} → x ≡ y → y < 2 ^ half_width → x < 2 ^ half_width
  small e l = subst (λ (k : ℕ). k < 2 ^ half_width) (sym e) l

  half_at : (a v : ℕ) → a < 8 → v < n → get_or s (8 * v + a) 0 < 2 ^ half_width
  half_at a v col in_v =
      elim (dec_lt a m) [
        | yes l ↦ small (c.cells a v l in_v) (none_or_full (test a v))
        | no f ↦ small (none.empty a v (omega arith) col in_v) (lit< tt)
      ]

  are_halves : AreHalves s
  are_halves i =
      elim (dec_lt i (8 * n)) [
        | yes l ↦ let place : 8 * (i / 8) + i % 8 ≡ i = omega arith in
            subst (λ (k : ℕ). get_or s k 0 < 2 ^ half_width) place (half_at (i % 8) (i / 8) (omega arith) (omega arith))
        | no f ↦ small (get_or-eq_default s 0 (omega (arith, c.size))) (lit< tt)
      ]

  pub passing : Passing m n (λ a v. cond (test a v) 0 every_version) s
  passing = record {
    size = c.size;
    halves = are_halves;
    cells = record {
      size = table-length _ (length s) ∙ c.size;
      cells = λ a v in_a in_v.
          table_at (λ i. of_halves (get_or s i 0) (get_or s i 0)) (length s) (8 * v + a) (omega (arith, c.size))
          ∙ ap (λ (k : ℕ). of_halves k k) (c.cells a v in_a in_v) ∙ both_halves (test a v);
    };
  }
