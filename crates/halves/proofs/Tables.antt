-- What the functions leave in their tables, by halves.
-- Assumes nothing.
use mathlib.Core.Path.{◌≡◌, refl, sym, ap, subst, ◌∙◌}
use mathlib.Core.Bool.{Bool, true, false, cond}
use mathlib.Core.List.{List}
use Prim.Native.Nat.{ℕ, ◌*◌, ◌/◌, ◌%◌, ◌^◌, ◌<◌, max}
use native.Mathlib.Nat.{mod-lt}
use native.Mathlib.Decide.{dec_lt}
use native.Mathlib.Omega.{arith}
use lib.Dec.{lit<}
use lib.ListN.{length, get_or, get_or-eq_default}
use lib.Seq.{ext_get_or}
use Rattle.flow.specs.Order.{Order}
use Rattle.flow.specs.Paths.{edge_count}
use Rattle.flow.specs.Solver.{row_count, Ends, Tables, Solved}
use Rattle.halves.specs.Halves.{low_halves, high_halves, with_low, with_high, AreHalves, doubled}
use Rattle.sets.specs.Sets.{every_version, half_width, low_half, high_half, of_halves, every_half}
use Rattle.words.specs.Tables.{table}
use Rattle.words.proofs.Tables.{table-length, table_at}
use Rattle.halves.proofs.Halves.{Parts, low_of, high_of, low_splits, parts_solved, cell, both_solved, low_solved}

-- tables for what is given by halves
pub tables_given : {es gives passes halves : List ℕ} → Tables es gives passes halves → {given : List ℕ} → length given ≡ length halves → Tables es given passes halves
tables_given t e = record { ends = t.ends; whole = t.whole; gives_all = e; passes_all = t.passes_all }

-- and for other halves
pub tables_kept : {es gives passes halves : List ℕ} → Tables es gives passes halves → {after : List ℕ} → length after ≡ length halves → Tables es gives passes after
tables_kept {es} t e = record {
  ends = subst (λ (x : ℕ). Ends es (x / 8)) (sym e) t.ends;
  whole = e ∙ t.whole ∙ ap (λ (x : ℕ). 8 * (x / 8)) (sym e);
  gives_all = t.gives_all ∙ sym e;
  passes_all = t.passes_all ∙ sym e;
}

-- ---- a table of halves that are full where a test passes, and empty elsewhere

full_or_none : (b : Bool) → cond b every_half 0 < 2 ^ half_width
full_or_none true = lit< tt
full_or_none false = lit< tt

both_halves : (b : Bool) → of_halves (cond b every_half 0) (cond b every_half 0) ≡ cond b every_version 0
both_halves true = refl
both_halves false = refl

module _ (test : ℕ → Bool) (n : ℕ) {s : List ℕ} (e : s ≡ table (λ i. cond (test i) every_half 0) n) where
  size_is : length s ≡ n
  size_is = ap length e ∙ table-length _ n

  at_is : (x : ℕ) → x < n → get_or s x 0 ≡ cond (test x) every_half 0
  at_is x l = ap (λ (t : List ℕ). get_or t x 0) e ∙ table_at (λ i. cond (test i) every_half 0) n x l

  pub test_halves : AreHalves s
  test_halves x = elim (dec_lt x n) [
    | yes l ↦ subst (λ (m : ℕ). m < 2 ^ half_width) (sym (at_is x l)) (full_or_none (test x))
    | no f ↦ subst (λ (m : ℕ). m < 2 ^ half_width) (sym (get_or-eq_default s 0 (omega (arith, size_is)))) (lit< tt)
  ]

  pub test_doubled : doubled s ≡ table (λ i. cond (test i) every_version 0) n
  test_doubled =
      ext_get_or 0 _ _ (table-length _ (length s) ∙ size_is ∙ sym (table-length _ n))
      (λ x l. let in-x : x < n = omega (arith, table-length (λ i. of_halves (get_or s i 0) (get_or s i 0)) (length s), size_is) in
      table_at (λ i. of_halves (get_or s i 0) (get_or s i 0)) (length s) x (omega (arith, size_is))
      ∙ ap (λ (m : ℕ). of_halves m m) (at_is x in-x) ∙ both_halves (test x)
      ∙ sym (table_at (λ i. cond (test i) every_version 0) n x in-x))

-- ---- what the functions leave

-- by what is given
pub solved_by : {es order given high passes halves : List ℕ} {along : Bool} {n r : ℕ} → given ≡ high → Solved es order along given passes n r halves
    → Solved es order along high passes n r halves
solved_by {es} {order} {passes = passes} {halves} {along} {n} {r} e h = subst (λ (g : List ℕ). Solved es order along g passes n r halves) e h

module _ (sets : List ℕ) {es gives passes halves : List ℕ} (t : Tables es gives passes halves) (small : AreHalves passes) (size : length sets ≡ length halves) where
  low_given : Parts low_half (8 * row_count halves) sets (low_halves sets)
  low_given = record { at = λ x l. table_at (λ i. low_half (get_or sets i 0)) (length sets) x (omega (arith, t.whole, size)) }

  high_given : Parts high_half (8 * row_count halves) sets (high_halves sets)
  high_given = record { at = λ x l. table_at (λ i. high_half (get_or sets i 0)) (length sets) x (omega (arith, t.whole, size)) }

  doubled_at : (x : ℕ) → x < 8 * row_count halves → get_or (doubled passes) x 0 ≡ of_halves (get_or passes x 0) (get_or passes x 0)
  doubled_at x l = table_at (λ i. of_halves (get_or passes i 0) (get_or passes i 0)) (length passes) x (omega (arith, t.whole, t.passes_all))

  low_passed : Parts low_half (8 * row_count halves) (doubled passes) passes
  low_passed = record { at = λ x l. sym (ap low_half (doubled_at x l) ∙ low_of (get_or passes x 0) (get_or passes x 0) (small x)) }

  high_passed : Parts high_half (8 * row_count halves) (doubled passes) passes
  high_passed = record { at = λ x l. sym (ap high_half (doubled_at x l) ∙ high_of (get_or passes x 0) (get_or passes x 0) (small x)) }

  module _ {order given low : List ℕ} {along : Bool} {r : ℕ} (ord : Order (edge_count es) order) (lows : given ≡ low_halves sets) (solved : Solved es order along given passes (row_count halves) r low) where
    c : Solved es order along (low_halves sets) passes (row_count halves) r low
    c = subst (λ (g : List ℕ). Solved es order along g passes (row_count halves) r low) lows solved

    -- no high half was given
    pub solved_narrow : {after : List ℕ} → ((i : ℕ) → i < length sets → high_half (get_or sets i 0) ≡ 0) → after ≡ low → Solved es order along sets (doubled passes) (row_count halves) r after
    solved_narrow none e =
        subst (λ (s : List ℕ). Solved es order along sets (doubled passes) (row_count halves) r s) (sym e)
        (low_solved es order along (row_count halves) ord t.ends low_given high_given low_passed high_passed (λ x l. high_given.at x l ∙ none x (omega (arith, t.whole, size))) c)

    -- what is solved of low halves is a half
    low_fits : (x : ℕ) → x < 8 * row_count halves → get_or low x 0 < 2 ^ half_width
    low_fits x l =
        let part = (parts_solved es order along (row_count halves) ord t.ends low_splits low_given low_passed c (x % 8) (omega arith)).at (x / 8) (omega arith) in
        subst (λ (m : ℕ). m < 2 ^ half_width) (sym part ∙ cell low (row_count halves) x l) (mod-lt _ (lit< tt))

    module _ {middle : List ℕ} (made : middle ≡ with_low low sets) where
      middle_length : length middle ≡ 8 * row_count halves
      middle_length = ap length made ∙ table-length _ (length sets) ∙ size ∙ t.whole

      middle_at : (x : ℕ) → x < 8 * row_count halves → get_or middle x 0 ≡ of_halves (get_or low x 0) (high_half (get_or sets x 0))
      middle_at x l =
          ap (λ (s : List ℕ). get_or s x 0) made ∙ table_at (λ i. of_halves (get_or low i 0) (high_half (get_or sets i 0))) (length sets) x (omega (arith, t.whole, size))

      high_kept : Parts high_half (8 * row_count halves) sets (high_halves middle)
      high_kept = record {
        at = λ x l. table_at (λ i. high_half (get_or middle i 0)) (length middle) x (omega (arith, middle_length))
            ∙ ap high_half (middle_at x l) ∙ high_of (get_or low x 0) (high_half (get_or sets x 0)) (low_fits x l);
      }

      -- both halves were solved, one after the other
      pub solved_wide : {high after : List ℕ} {q n count : ℕ} → n ≡ row_count halves → Solved es order along (high_halves middle) passes n q high → after ≡ with_high high middle
          → count ≡ max r q → Solved es order along sets (doubled passes) (row_count halves) count after
      solved_wide {high} {after} {q} rows found e most =
          let d = subst (λ (n : ℕ). Solved es order along (high_halves middle) passes n q high) rows found in
          subst (λ (m : ℕ). Solved es order along sets (doubled passes) (row_count halves) m after) (sym most)
          (subst (λ (s : List ℕ). Solved es order along sets (doubled passes) (row_count halves) (max r q) s)
          (ext_get_or 0 _ _ (table-length _ (length low) ∙ c.size ∙ sym (ap length e ∙ table-length _ (length middle) ∙ middle_length))
          (λ x l. let in-x : x < 8 * row_count halves = omega (arith, table-length (λ i. of_halves (get_or low i 0) (get_or high i 0)) (length low), c.size) in
          table_at (λ i. of_halves (get_or low i 0) (get_or high i 0)) (length low) x (omega (arith, c.size))
          ∙ ap (λ (m : ℕ). of_halves m (get_or high x 0)) (sym (ap low_half (middle_at x in-x) ∙ low_of (get_or low x 0) (high_half (get_or sets x 0)) (low_fits x in-x)))
          ∙ sym (ap (λ (s : List ℕ). get_or s x 0) e ∙ table_at (λ i. of_halves (low_half (get_or middle i 0)) (get_or high i 0)) (length middle) x (omega (arith, middle_length)))))
          (both_solved es order along (row_count halves) ord t.ends low_given high_kept low_passed high_passed c d))
