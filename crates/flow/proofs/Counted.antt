-- The rounds of a table are those of its arrays: a column that is given nothing stays empty.
-- Assumes nothing.
use mathlib.Core.Path.{◌≡◌, sym, ap, ap₂, ◌∙◌}
use mathlib.Core.Bool.{Bool}
use mathlib.Core.List.{List, List-discrete}
use Prim.Native.Nat.{ℕ, zero, suc, ◌+◌, ◌-◌, ◌*◌, ◌≤◌, ◌<◌}
use native.Mathlib.Nat.{le_refl}
use native.Mathlib.Decide.{dec_lt, ℕ_discrete}
use native.Mathlib.Omega.{arith}
use borrow.Author.Count.{below_more}
use lib.ListN.{get_or, replicate, length-replicate}
use lib.Seq.{ext_get_or}
use Rattle.words.proofs.Tables.{table-length, table_at, zeros_at}
use Rattle.flow.specs.Cells.{Cells, NoneBeyond}
use Rattle.flow.specs.Counted.{sets_after, StopsAfter}
use Rattle.flow.specs.Order.{Order}
use Rattle.flow.specs.Paths.{edge_count}
use Rattle.flow.specs.Solver.{relaxed, rounds, column, rounds_row, Ends, Rounds}
use Rattle.flow.proofs.Cells.{column_cells}
use Rattle.flow.proofs.Exact.{after, after-length, after_fits}
use Rattle.flow.proofs.Rows.{columns_all, made_length, column_made}

-- where not all of m lists are the same, one differs
one_differs : (s t : ℕ → List ℕ) (m : ℕ) → (((a : ℕ) → a < m → s a ≡ t a) → ⊥) → (a : ℕ) × (a < m) × (s a ≡ t a → ⊥)
one_differs s t zero not-all = absurd (not-all (λ a h. absurd (omega arith)))
one_differs s t (suc m) not-all = elim (List-discrete ℕ_discrete (s m) (t m)) [
  | yes e ↦ let d = one_differs s t m (λ all. not-all (λ a h. below_more (λ b. s b ≡ t b) m all e a (omega arith))) in (d.0, omega (arith, d.1), d.2)
  | no d ↦ (m, le_refl (suc m), d)
]

module _ (es order : List ℕ) (along : Bool) (gives passes : List ℕ) {m : ℕ} (n : ℕ) (G P : ℕ → ℕ → ℕ) (few : m ≤ 8) (ord : Order (edge_count es) order) (ends : Ends es n)
    (g : Cells m n G gives) (p : Cells m n P passes) (none : NoneBeyond m n gives) where
  abbrev made : ℕ → List ℕ
  made r = rounds_row es order along gives passes n r

  -- an array's column after r rounds
  column-after : (a : ℕ) → a < m → (r : ℕ) → column (made r) n a ≡ sets_after es order along (G a) (P a) n r
  column-after a in_a r =
      column_made es order along gives passes n ord ends a (omega arith) r
      ∙ ap₂ (λ (x y : List ℕ). rounds (relaxed es along x y) order along (replicate n 0) r) (column_cells few in_a g) (column_cells few in_a p)

  module _ (a : ℕ) (beyond : m ≤ a) (col : a < 8) where
    column_none : column gives n a ≡ replicate n 0
    column_none =
        ext_get_or 0 _ _ (table-length _ n ∙ sym (length-replicate n 0))
        (λ v l. let in_v : v < n = omega (arith, table-length (λ u. get_or gives (8 * u + a) 0) n) in
        table_at (λ u. get_or gives (8 * u + a) 0) n v in_v ∙ none.empty a v beyond col in_v ∙ sym (zeros_at n v))

    -- any other column
    column_empty : (r : ℕ) → column (made r) n a ≡ replicate n 0
    column_empty r =
        column_made es order along gives passes n ord ends a col r
        ∙ ap (λ (x : List ℕ). rounds (relaxed es along x (column passes n a)) order along (replicate n 0) r) column_none
        ∙ ext_get_or 0 _ _ (after-length es along (replicate n 0) (column passes n a) ord n r ∙ sym (length-replicate n 0))
        (λ v l. let e : get_or (after es along (replicate n 0) (column passes n a) ord n r) v 0 ≡ 0 =
        omega (arith, after_fits es along (replicate n 0) (column passes n a) ord 0 n r (λ u. omega (arith, zeros_at n u)) v) in
        e ∙ sym (zeros_at n v))

  -- rounds that leave the same sets of all arrays leave the same table
  made_alike : (i j : ℕ) → ((a : ℕ) → a < m → sets_after es order along (G a) (P a) n i ≡ sets_after es order along (G a) (P a) n j) → made i ≡ made j
  made_alike i j same =
      columns_all n (made i) (made j) (made_length es order along gives passes n ord i) (made_length es order along gives passes n ord j)
      (λ a col. elim (dec_lt a m) [
        | yes l ↦ column-after a l i ∙ same a l ∙ sym (column-after a l j)
        | no f ↦ column_empty a (omega arith) col i ∙ sym (column_empty a (omega arith) col j)
      ])

  -- so their numbers of rounds are the same
  pub stops_after : {r : ℕ} → Rounds es order along gives passes n r → StopsAfter es along m n G P r
  stops_after {r} h = record {
    order = order;
    ordered = ord;
    some = h.some;
    most = h.most;
    altered = λ j l.
        one_differs (λ a. sets_after es order along (G a) (P a) n (suc j)) (λ a. sets_after es order along (G a) (P a) n j) m
        (λ same. h.altered j l (made_alike (suc j) j same));
    still = λ a in_a. sym (column-after a in_a r) ∙ ap (λ (s : List ℕ). column s n a) h.still ∙ column-after a in_a (r - 1);
  }
