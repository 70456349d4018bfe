-- A pass over sets is a pass over their low halves and one over their high halves: bits never meet in it.
-- Assumes nothing.
use mathlib.Core.Path.{◌≡◌, refl, sym, ap, ap₂, subst, ◌∙◌}
use mathlib.Core.Bool.{Bool}
use mathlib.Core.List.{List}
use Prim.Native.Nat.{ℕ, suc, ◌+◌, ◌-◌, ◌*◌, ◌/◌, ◌%◌, ◌^◌, ◌≤◌, ◌<◌, max}
use native.Mathlib.Nat.{le_refl}
use native.Mathlib.Decide.{dec_lt, ℕ_discrete}
use native.Mathlib.Omega.{arith}
use lib.Bits.{bit_and, bit_or, or_mod, and_mod, or_shr, and_shr}
use lib.ListN.{length, get_or, replicate, length-replicate, length-set}
use lib.Seq.{get_or-set_same, get_or-set_other, ext_get_or}
use Rattle.flow.proofs.Exact.{after, after-length, after_fits, ends_alike}
use Rattle.flow.proofs.Rounds.{near_lt, far_lt, rounds_both}
use Rattle.flow.proofs.Rows.{column_made, made_length, rest}
use Rattle.flow.specs.Order.{Order}
use Rattle.flow.specs.Paths.{edge_count}
use Rattle.flow.specs.Solver.{near, far, relaxed, solution, column, rounds_row, Ends, Rounds, Solved}
use Rattle.words.specs.Tables.{table}
use Rattle.sets.specs.Sets.{half_width, low_half, high_half, of_halves}
use Rattle.words.proofs.Tables.{table-length, table_at, zeros_at}

-- ---- halves

-- a part of a set that goes with union and intersection
pub record Splits (h : ℕ → ℕ) : Type 0 where
  pub none : h 0 ≡ 0
  pub ors : (a b : ℕ) → h (bit_or a b) ≡ bit_or (h a) (h b)
  pub ands : (a b : ℕ) → h (bit_and a b) ≡ bit_and (h a) (h b)

pub low_splits : Splits low_half
low_splits = record { none = refl; ors = λ a b. or_mod a b half_width; ands = λ a b. and_mod a b half_width }

high_splits : Splits high_half
high_splits = record { none = refl; ors = λ a b. or_shr a b half_width; ands = λ a b. and_shr a b half_width }

-- the sets with these halves
abbrev pub joined : List ℕ → List ℕ → List ℕ
joined low high = table (λ i. of_halves (get_or low i 0) (get_or high i 0)) (length low)

-- the halves of a set make it up
pub of_halves_lem : (m : ℕ) → of_halves (low_half m) (high_half m) ≡ m
of_halves_lem m = omega arith

-- the halves of a set that is made of them
pub low_of : (low high : ℕ) → low < 2 ^ half_width → low_half (of_halves low high) ≡ low
low_of low high fits = omega arith

pub high_of : (low high : ℕ) → low < 2 ^ half_width → high_half (of_halves low high) ≡ high
high_of low high fits = omega arith

-- ---- one column

-- the second of two tables of n sets has this part of each set of the first
pub record Parts (h : ℕ → ℕ) (n : ℕ) (s t : List ℕ) : Type 0 where
  pub at : (v : ℕ) → v < n → get_or t v 0 ≡ h (get_or s v 0)

abbrev Both : (ℕ → ℕ) → ℕ → List ℕ → List ℕ → Type 0
Both h n s t = (length s ≡ n) × (length t ≡ n) × Parts h n s t

module _ {h : ℕ → ℕ} (splits : Splits h) (es : List ℕ) (along : Bool) {order : List ℕ} (ord : Order (edge_count es) order) {n : ℕ} (ends : Ends es n)
    {gives passes given passed : List ℕ} (g : Parts h n gives given) (p : Parts h n passes passed) where
  -- an edge taken
  both_taken : (s t : List ℕ) (i : ℕ) → i < edge_count es → Both h n s t → Both h n (relaxed es along gives passes s i) (relaxed es along given passed t i)
  both_taken s t i l b =
      let w = near es along i in
      let in-w = near_lt ends along i l in
      let u = far es along i in
      let in_u = far_lt ends along i l in
      let grown : bit_or (get_or t w 0) (bit_or (get_or given u 0) (bit_and (get_or t u 0) (get_or passed u 0))) ≡ h (bit_or (get_or s w 0) (bit_or (get_or gives u 0) (bit_and (get_or s u 0) (get_or passes u 0)))) =
      ap₂ bit_or (b.2.at w in-w) (ap₂ bit_or (g.at u in_u) (ap₂ bit_and (b.2.at u in_u) (p.at u in_u) ∙ sym (splits.ands _ _)) ∙ sym (splits.ors _ _)) ∙ sym (splits.ors _ _) in (
        length-set s w _ ∙ b.0,
        length-set t w _ ∙ b.1,
        record {
          at = λ v in_v. elim (ℕ_discrete v w) [
            | yes e ↦ subst (λ (x : ℕ). get_or (relaxed es along given passed t i) x 0 ≡ h (get_or (relaxed es along gives passes s i) x 0)) (sym e)
                (get_or-set_same t w _ 0 (omega (arith, b.1)) ∙ grown ∙ ap h (sym (get_or-set_same s w _ 0 (omega (arith, b.0)))))
            | no e ↦ get_or-set_other t w v _ 0 e ∙ b.2.at v in_v ∙ ap h (sym (get_or-set_other s w v _ 0 e))
          ];
        },
      )

  -- rounds
  parts-after : (r : ℕ) → Parts h n (after es along gives passes ord n r) (after es along given passed ord n r)
  parts-after r =
      (rounds_both ord along (relaxed es along gives passes) (relaxed es along given passed) (Both h n) both_taken (replicate n 0) (replicate n 0)
      (length-replicate n 0, length-replicate n 0, record { at = λ v _. zeros_at n v ∙ sym splits.none ∙ ap h (sym (zeros_at n v)) }) r).2

  parts-solution : Parts h n (solution es along gives passes n) (solution es along given passed n)
  parts-solution = record {
    at = λ v in_v.
        ap (λ (s : List ℕ). get_or s v 0) (sym (ends_alike es along given passed n ends ord n (le_refl n)))
        ∙ (parts-after n).at v in_v
        ∙ ap (λ (s : List ℕ). h (get_or s v 0)) (ends_alike es along gives passes n ends ord n (le_refl n));
  }

-- ---- tables of eight columns

parts-column : {h : ℕ → ℕ} {n : ℕ} {s t : List ℕ} → Parts h (8 * n) s t → (a : ℕ) → a < 8 → Parts h n (column s n a) (column t n a)
parts-column {h} {n} {s} {t} all a l = record {
  at = λ v in_v. table_at (λ u. get_or t (8 * u + a) 0) n v in_v ∙ all.at (8 * v + a) (omega arith) ∙ ap h (sym (table_at (λ u. get_or s (8 * u + a) 0) n v in_v));
}

-- a cell in its column
pub cell : (s : List ℕ) (n x : ℕ) → x < 8 * n → get_or (column s n (x % 8)) (x / 8) 0 ≡ get_or s x 0
cell s n x l =
    let place : 8 * (x / 8) + x % 8 ≡ x = omega arith in
    table_at (λ u. get_or s (8 * u + x % 8) 0) n (x / 8) (omega arith) ∙ ap (λ (y : ℕ). get_or s y 0) place

module _ (es order : List ℕ) (along : Bool) (n : ℕ) (ord : Order (edge_count es) order) (ends : Ends es n) where
  abbrev made : List ℕ → List ℕ → ℕ → List ℕ
  made gives passes r = rounds_row es order along gives passes n r

  -- a cell after r rounds
  made_cell : (gives passes : List ℕ) (r x : ℕ) → x < 8 * n
      → get_or (made gives passes r) x 0 ≡ get_or (after es along (column gives n (x % 8)) (column passes n (x % 8)) ord n r) (x / 8) 0
  made_cell gives passes r x l =
      sym (cell (made gives passes r) n x l) ∙ ap (λ (c : List ℕ). get_or c (x / 8) 0) (column_made es order along gives passes n ord ends (x % 8) (omega arith) r)

  -- ---- rounds, by a part of what is given and passed

  module _ {h : ℕ → ℕ} (splits : Splits h) {gives passes given passed : List ℕ} (g : Parts h (8 * n) gives given) (p : Parts h (8 * n) passes passed) where
    parts_made : (r : ℕ) → Parts h (8 * n) (made gives passes r) (made given passed r)
    parts_made r = record {
      at = λ x l. made_cell given passed r x l
          ∙ (parts-after splits es along ord ends (parts-column g (x % 8) (omega arith)) (parts-column p (x % 8) (omega arith)) r).at (x / 8) (omega arith)
          ∙ ap h (sym (made_cell gives passes r x l));
    }

    -- rounds that leave the same sets leave the same parts of them
    parts-alike : (i j : ℕ) → made gives passes i ≡ made gives passes j → made given passed i ≡ made given passed j
    parts-alike i j same =
        ext_get_or 0 _ _ (made_length es order along given passed n ord i ∙ sym (made_length es order along given passed n ord j))
        (λ x l. let in-x : x < 8 * n = omega (arith, made_length es order along given passed n ord i) in
        (parts_made i).at x in-x ∙ ap (λ (s : List ℕ). h (get_or s x 0)) same ∙ sym ((parts_made j).at x in-x))

    -- the parts of what is solved
    pub parts_solved : {r : ℕ} {sets : List ℕ} → Solved es order along given passed n r sets → (a : ℕ) → a < 8
        → Parts h n (solution es along (column gives n a) (column passes n a) n) (column sets n a)
    parts_solved q a l = record {
      at = λ v in_v. ap (λ (c : List ℕ). get_or c v 0) (q.sets a l) ∙ (parts-solution splits es along ord ends (parts-column g a l) (parts-column p a l)).at v in_v;
    }

  -- ---- where nothing is given, nothing is found, and the first round alters nothing

  module _ (gives passes : List ℕ) (none : (x : ℕ) → x < 8 * n → get_or gives x 0 ≡ 0) where
    column_none : (a : ℕ) → a < 8 → column gives n a ≡ replicate n 0
    column_none a col =
        ext_get_or 0 _ _ (table-length _ n ∙ sym (length-replicate n 0))
        (λ v l. let in_v : v < n = omega (arith, table-length (λ u. get_or gives (8 * u + a) 0) n) in
        table_at (λ u. get_or gives (8 * u + a) 0) n v in_v ∙ none (8 * v + a) (omega arith) ∙ sym (zeros_at n v))

    after_none : (a : ℕ) → a < 8 → (r v : ℕ) → get_or (after es along (column gives n a) (column passes n a) ord n r) v 0 ≡ 0
    after_none a col r v =
        omega (
          arith,
          after_fits es along (column gives n a) (column passes n a) ord 0 n r
              (λ u. subst (λ (c : List ℕ). get_or c u 0 < 2 ^ 0) (sym (column_none a col)) (omega (arith, zeros_at n u))) v,
        )

    made_none : (r : ℕ) → made gives passes r ≡ replicate (8 * n) 0
    made_none r =
        ext_get_or 0 _ _ (made_length es order along gives passes n ord r ∙ sym (length-replicate (8 * n) 0))
        (λ x l. made_cell gives passes r x (omega (arith, made_length es order along gives passes n ord r)) ∙ after_none (x % 8) (omega arith) r (x / 8) ∙ sym (zeros_at (8 * n) x))

    none_solved : Solved es order along gives passes n 1 (replicate (8 * n) 0)
    none_solved = record {
      size = length-replicate (8 * n) 0;
      sets = λ a l.
          ap (λ (s : List ℕ). column s n a) (sym (made_none n))
          ∙ column_made es order along gives passes n ord ends a l n
          ∙ ends_alike es along (column gives n a) (column passes n a) n ends ord n (le_refl n);
      counted = record {
        some = omega arith;
        most = omega arith;
        altered = λ j l. absurd (omega arith);
        still = made_none 1 ∙ sym (made_none 0);
      };
    }

  -- ---- both halves

  module _ {sets passes lows highs halves : List ℕ} (low : Parts low_half (8 * n) sets lows) (high : Parts high_half (8 * n) sets highs)
      (pass-low : Parts low_half (8 * n) passes halves) (pass-high : Parts high_half (8 * n) passes halves) where
    -- a half that altered nothing alters nothing later
    rests : {gives passed : List ℕ} {r : ℕ} → Rounds es order along gives passed n r → (q : ℕ) → r ≤ q → made gives passed q ≡ made gives passed (q - 1)
    rests {gives} {passed} {r} c q l =
        let first : suc (r - 1) ≡ r = omega (arith, c.some) in
        let same : made gives passed (suc (r - 1)) ≡ made gives passed (r - 1) = ap (made gives passed) first ∙ c.still in
        rest es order along gives passed n (r - 1) same q (omega arith) ∙ sym (rest es order along gives passed n (r - 1) same (q - 1) (omega (arith, c.some)))

    counted : {r q : ℕ} → Rounds es order along lows halves n r → Rounds es order along highs halves n q → Rounds es order along sets passes n (max r q)
    counted {r} {q} c d = record {
      some = omega (arith, c.some);
      most = omega (arith, c.most, d.most);
      altered = λ j l same. elim (dec_lt (suc j) r) [
        | yes first ↦ c.altered j first (parts-alike low_splits low pass-low (suc j) j same)
        | no late ↦ d.altered j (omega arith) (parts-alike high_splits high pass-high (suc j) j same)
      ];
      still =
          ext_get_or 0 _ _ (made_length es order along sets passes n ord (max r q) ∙ sym (made_length es order along sets passes n ord (max r q - 1)))
          (λ x l. let in-x : x < 8 * n = omega (arith, made_length es order along sets passes n ord (max r q)) in
          sym (of_halves_lem _)
          ∙ ap₂ of_halves
          (sym ((parts_made low_splits low pass-low (max r q)).at x in-x) ∙ ap (λ (s : List ℕ). get_or s x 0) (rests c (max r q) (omega arith)) ∙ (parts_made low_splits low pass-low (max r q - 1)).at x in-x)
          (sym ((parts_made high_splits high pass-high (max r q)).at x in-x) ∙ ap (λ (s : List ℕ). get_or s x 0) (rests d (max r q) (omega arith)) ∙ (parts_made high_splits high pass-high (max r q - 1)).at x in-x)
          ∙ of_halves_lem _);
    }

    -- the sets whose halves are solved are solved
    pub both_solved : {r q : ℕ} {solved-low solved-high : List ℕ} → Solved es order along lows halves n r solved-low → Solved es order along highs halves n q solved-high
        → Solved es order along sets passes n (max r q) (joined solved-low solved-high)
    both_solved {solved-low = sl} {solved-high = sh} c d = record {
      size = table-length _ (length sl) ∙ c.size;
      sets = λ a l.
          ext_get_or 0 _ _ (table-length _ n ∙ sym (ap length (sym (ends_alike es along (column sets n a) (column passes n a) n ends ord n (le_refl n))) ∙ after-length es along (column sets n a) (column passes n a) ord n n))
          (λ v in_table. let in_v : v < n = omega (arith, table-length (λ u. get_or (joined sl sh) (8 * u + a) 0) n) in
          table_at (λ u. get_or (joined sl sh) (8 * u + a) 0) n v in_v
          ∙ table_at (λ i. of_halves (get_or sl i 0) (get_or sh i 0)) (length sl) (8 * v + a) (omega (arith, c.size))
          ∙ ap₂ of_halves
          (sym (table_at (λ u. get_or sl (8 * u + a) 0) n v in_v) ∙ (parts_solved low_splits low pass-low c a l).at v in_v)
          (sym (table_at (λ u. get_or sh (8 * u + a) 0) n v in_v) ∙ (parts_solved high_splits high pass-high d a l).at v in_v)
          ∙ of_halves_lem _);
      counted = counted c.counted d.counted;
    }

    -- and where no high half is given, they are the low ones
    pub low_solved : {r : ℕ} {solved : List ℕ} → ((x : ℕ) → x < 8 * n → get_or highs x 0 ≡ 0) → Solved es order along lows halves n r solved → Solved es order along sets passes n r solved
    low_solved {r} {solved} none c =
        let most : max r 1 ≡ r = omega (arith, c.counted.some) in
        let is : joined solved (replicate (8 * n) 0) ≡ solved =
        ext_get_or 0 _ _ (table-length _ (length solved))
        (λ x l. let in-x : x < length solved = omega (arith, table-length (λ i. of_halves (get_or solved i 0) (get_or (replicate (8 * n) 0) i 0)) (length solved)) in
        table_at (λ i. of_halves (get_or solved i 0) (get_or (replicate (8 * n) 0) i 0)) (length solved) x in-x ∙ omega (arith, zeros_at (8 * n) x)) in
        subst (λ (s : List ℕ). Solved es order along sets passes n r s) is
        (subst (λ (m : ℕ). Solved es order along sets passes n m (joined solved (replicate (8 * n) 0))) most (both_solved c (none_solved highs halves none)))
