-- Eight tables in one: each column goes its own way, and a note of what was added says whether a set was altered.
-- Assumes nothing.
use mathlib.Core.Path.{◌≡◌, refl, sym, ap, ap₂, subst, ◌∙◌}
use mathlib.Core.Bool.{Bool, true, false, not}
use mathlib.Core.List.{List, [], ◌∷◌}
use Prim.Native.Nat.{ℕ, zero, suc, ◌+◌, ◌-◌, ◌*◌, ◌/◌, ◌%◌, ◌≤◌, ◌<◌, zero-le}
use native.Mathlib.Nat.{le_refl, le_trans, le_antisymm, le_of_lt}
use native.Mathlib.Decide.{le_ind, dec_lt, ℕ_discrete}
use native.Mathlib.Numerals.{add-one}
use native.Mathlib.Omega.{arith}
use borrow.Author.Count.{below_more}
use lib.Bits.{bit_and, bit_or, or_add_and, and_comm}
use lib.Dec.{eqb, eqb-suc-zero}
use lib.ListN.{length, get_or, set, replicate, length-replicate, length-set}
use lib.Seq.{get_or-set_same, get_or-set_other, ext_get_or}
use Rattle.sets.specs.Sets.{bit, minus}
use Rattle.sets.proofs.Laws.{bit_none, bit-minus, or_none}
use Rattle.words.specs.Tables.{table, replaced, with_row}
use Rattle.words.proofs.Replaced.{replaced-length, replaced_other, replaced_at, replaced_still, replaced_same}
use Rattle.words.proofs.Tables.{table-length, table_at, rows_same, zeros_at}
use Rattle.flow.specs.declared.Carry.{Carry}
use Rattle.flow.specs.Order.{Order}
use Rattle.flow.specs.Paths.{edge_count}
use Rattle.flow.specs.Solver.{near, far, turn, handed, relaxed, swept, rounds, solution, column, handed_row, grown, relaxed_row, rounds_row, Ends, row_of, Recent, Tables, noted, in_all, Altered, Advanced, Going, Solved}
use Rattle.flow.proofs.Rounds.{turn_lt, near_lt, far_lt, swept_keeps, rounds_keeps, rounds_both}
use Rattle.flow.proofs.Exact.{or_le, or_subset, after, ends_alike}

-- ---- a row that grows

-- what a set of the row grows to
abbrev pub grows : List ℕ → ℕ → List ℕ → ℕ → ℕ
grows s v row a = bit_or (get_or s (8 * v + a) 0) (get_or row a 0)

grown-length : (s : List ℕ) (v : ℕ) (row : List ℕ) (m : ℕ) → length (grown s v row m) ≡ length s
grown-length s v row = replaced-length s (8 * v) (grows s v row)

pub grown_at : (s : List ℕ) (v : ℕ) (row : List ℕ) (m a : ℕ) → a < m → 8 * v + m ≤ length s → get_or (grown s v row m) (8 * v + a) 0 ≡ grows s v row a
grown_at s v row m a = replaced_at s (8 * v) (grows s v row) 0 m a refl

-- ---- by the rows at hand

-- none is, before the first edge
pub recent_none : (sets : List ℕ) {r : Carry} → r.vertex ≡ length sets → Recent sets r
recent_none sets e = record { row_is = λ h. absurd (omega (arith, e)) }

-- and the note does not matter
pub recent_as : {sets note : List ℕ} {r q : Carry} → q ≡ record { vertex = r.vertex; row = r.row; note = note } → Recent sets r → Recent sets q
recent_as {sets} e h = subst (Recent sets) (sym e) (record { row_is = h.row_is })

module _ (sets : List ℕ) (v : ℕ) {held : List ℕ} (is : held ≡ row_of sets v) where
  held_at : (a : ℕ) → a < 8 → get_or held a 0 ≡ get_or sets (8 * v + a) 0
  held_at a l = ap (λ (r : List ℕ). get_or r a 0) is ∙ table_at (λ b. get_or sets (8 * v + b) 0) 8 a l

  -- what a vertex hands on
  pub handed_by : (gives passes : List ℕ)
      → table (λ a. bit_or (get_or gives (8 * v + a) 0) (bit_and (get_or held a 0) (get_or passes (8 * v + a) 0))) 8 ≡ handed_row gives passes sets v
  handed_by gives passes =
      rows_same _ (λ a. handed gives passes sets (8 * v + a) ∷ []) 8
      (λ a l. ap (λ (x : ℕ). bit_or (get_or gives (8 * v + a) 0) (bit_and x (get_or passes (8 * v + a) 0)) ∷ []) (held_at a l))

  -- what is noted of a row that it was brought
  pub noted_by : (note row : List ℕ) → table (λ a. bit_or (get_or note a 0) (minus (get_or row a 0) (get_or held a 0))) 8 ≡ noted note sets v row
  noted_by note row =
      rows_same _ (λ a. bit_or (get_or note a 0) (minus (get_or row a 0) (get_or sets (8 * v + a) 0)) ∷ []) 8
      (λ a l. ap (λ (x : ℕ). bit_or (get_or note a 0) (minus (get_or row a 0) x) ∷ []) (held_at a l))

  module _ (row : List ℕ) {new : List ℕ} (joined : new ≡ table (λ a. bit_or (get_or held a 0) (get_or row a 0)) 8) where
    new_at : (a : ℕ) → a < 8 → get_or new a 0 ≡ grows sets v row a
    new_at a l =
        ap (λ (r : List ℕ). get_or r a 0) joined ∙ table_at (λ b. bit_or (get_or held b 0) (get_or row b 0)) 8 a l
        ∙ ap (λ (x : ℕ). bit_or x (get_or row a 0)) (held_at a l)

    -- the sets once it has grown
    pub grown_by : with_row sets v (λ a. get_or new a 0) 8 ≡ grown sets v row 8
    grown_by = replaced_same sets (8 * v) (λ a. get_or new a 0) (grows sets v row) 8 new_at

    pub recent_by : {after note : List ℕ} → 8 * v + 8 ≤ length sets → after ≡ grown sets v row 8 → Recent after (record { vertex = v; row = new; note = note })
    recent_by {after} fits e = record {
      row_is = λ _. joined
          ∙ rows_same _ (λ a. get_or after (8 * v + a) 0 ∷ []) 8
          (λ a l. ap (λ (x : ℕ). x ∷ [])
          (ap (λ (x : ℕ). bit_or x (get_or row a 0)) (held_at a l) ∙ sym (grown_at sets v row 8 a l fits) ∙ ap (λ (q : List ℕ). get_or q (8 * v + a) 0) (sym e)));
    }

-- each element is at most the other list's
abbrev pub Below : List ℕ → List ℕ → Type 0
Below s t = (x : ℕ) → get_or s x 0 ≤ get_or t x 0

pub below_grown : (s : List ℕ) (v : ℕ) (row : List ℕ) (m : ℕ) → 8 * v + m ≤ length s → Below s (grown s v row m)
unfolding replaced
below_grown s v row zero l x = le_refl _
below_grown s v row (suc m) l x =
    elim (ℕ_discrete x (8 * v + m)) [
      | yes e ↦ subst (λ (y : ℕ). get_or s y 0 ≤ get_or (grown s v row (suc m)) y 0) (sym e)
          (subst (λ (y : ℕ). get_or s (8 * v + m) 0 ≤ y) (sym (get_or-set_same (grown s v row m) (8 * v + m) _ 0 (omega (arith, grown-length s v row m)))) (or_le _ _))
      | no e ↦ subst (λ (y : ℕ). get_or s x 0 ≤ y) (sym (get_or-set_other (grown s v row m) (8 * v + m) x _ 0 e)) (below_grown s v row m (omega arith) x)
    ]

-- lists that grow no further than where they began
pub squeezed : (s t u : List ℕ) → length t ≡ length s → Below s t → Below t u → u ≡ s → t ≡ s
squeezed s t u e st tu same = ext_get_or 0 t s e (λ x l. le_antisymm (subst (λ (y : List ℕ). get_or t x 0 ≤ get_or y x 0) same (tu x)) (st x))

-- ---- columns

module _ (n a : ℕ) (col : a < 8) where
  -- a column is grown at its vertex
  column-grown : (s : List ℕ) (v : ℕ) (row : List ℕ) → length s ≡ 8 * n → v < n
      → column (grown s v row 8) n a ≡ set (column s n a) v (bit_or (get_or (column s n a) v 0) (get_or row a 0))
  column-grown s v row size h =
      ext_get_or 0 _ _ (table-length _ n ∙ sym (length-set (column s n a) v _ ∙ table-length _ n))
      (λ w l. let in-w : w < n = subst (λ (x : ℕ). w < x) (table-length (λ u. get_or (grown s v row 8) (8 * u + a) 0) n) l in
      table_at (λ u. get_or (grown s v row 8) (8 * u + a) 0) n w in-w
      ∙ elim (ℕ_discrete w v) [
        | yes e ↦ subst (λ (x : ℕ). get_or (grown s v row 8) (8 * x + a) 0 ≡ get_or (set (column s n a) v (bit_or (get_or (column s n a) v 0) (get_or row a 0))) x 0) (sym e)
            (grown_at s v row 8 a col (omega arith)
            ∙ ap (λ (x : ℕ). bit_or x (get_or row a 0)) (sym (table_at (λ u. get_or s (8 * u + a) 0) n v h))
            ∙ sym (get_or-set_same (column s n a) v _ 0 (subst (λ (x : ℕ). v < x) (sym (table-length (λ u. get_or s (8 * u + a) 0) n)) h)))
        | no e ↦ replaced_other s (8 * v) (grows s v row) 0 8 (8 * w + a) (λ b lb eq. e (omega arith))
            ∙ sym (table_at (λ u. get_or s (8 * u + a) 0) n w in-w)
            ∙ sym (get_or-set_other (column s n a) v w _ 0 e)
      ])

  -- an edge is taken in a column as it is in a table
  column-relaxed : (es : List ℕ) (along : Bool) (gives passes s : List ℕ) (i : ℕ) → Ends es n → i < edge_count es → length s ≡ 8 * n
      → column (relaxed_row es along gives passes s i) n a ≡ relaxed es along (column gives n a) (column passes n a) (column s n a) i
  column-relaxed es along gives passes s i ends l size =
      let u = far es along i in
      let in_u = far_lt ends along i l in
      column-grown s (near es along i) (handed_row gives passes s u) size (near_lt ends along i l)
      ∙ ap (λ (x : ℕ). set (column s n a) (near es along i) (bit_or (get_or (column s n a) (near es along i) 0) x))
      (table_at (λ b. handed gives passes s (8 * u + b)) 8 a col
      ∙ ap₂ bit_or (sym (table_at (λ w. get_or gives (8 * w + a) 0) n u in_u))
      (ap₂ bit_and (sym (table_at (λ w. get_or s (8 * w + a) 0) n u in_u)) (sym (table_at (λ w. get_or passes (8 * w + a) 0) n u in_u))))

  column-cleared : column (replicate (8 * n) 0) n a ≡ replicate n 0
  column-cleared =
      ext_get_or 0 _ _ (table-length _ n ∙ sym (length-replicate n 0))
      (λ v l. table_at (λ u. get_or (replicate (8 * n) 0) (8 * u + a) 0) n v (subst (λ (x : ℕ). v < x) (table-length (λ u. get_or (replicate (8 * n) 0) (8 * u + a) 0) n) l)
      ∙ zeros_at (8 * n) (8 * v + a) ∙ sym (zeros_at n v))

-- the columns of a table make it up
pub columns_all : (n : ℕ) (s t : List ℕ) → length s ≡ 8 * n → length t ≡ 8 * n → ((a : ℕ) → a < 8 → column s n a ≡ column t n a) → s ≡ t
columns_all n s t es et h =
    ext_get_or 0 s t (es ∙ sym et)
    (λ x l. let row : x / 8 < n = omega arith in
    let place : 8 * (x / 8) + x % 8 ≡ x = omega arith in
    let cell : (q : List ℕ) → get_or (column q n (x % 8)) (x / 8) 0 ≡ get_or q x 0 =
    λ q. table_at (λ v. get_or q (8 * v + x % 8) 0) n (x / 8) row ∙ ap (λ (y : ℕ). get_or q y 0) place in
    sym (cell s) ∙ ap (λ (c : List ℕ). get_or c (x / 8) 0) (h (x % 8) (omega arith)) ∙ cell t)

-- ---- notes: nothing where the sets are as before, and something only where they are not

pub record Notes (note before after : List ℕ) : Type 0 where
  pub none : ((a : ℕ) → a < 8 → get_or note a 0 ≡ 0) → after ≡ before
  pub some : after ≡ before → (a : ℕ) → a < 8 → get_or note a 0 ≡ 0

pub notes_none : (s : List ℕ) → Notes (replicate 8 0) s s
notes_none s = record { none = λ h. refl; some = λ e a l. zeros_at 8 a }

-- what a set lacks, and what it grows by
lacks_none : (a b : ℕ) → minus b a ≡ 0 → bit_or a b ≡ a
lacks_none a b e = or_subset a b (λ k. omega (arith, bit-minus b a k, ap (λ (m : ℕ). bit m k) e, bit_none k))

lacks_some : (a b : ℕ) → bit_or a b ≡ a → minus b a ≡ 0
unfolding minus
lacks_some a b e = omega (arith, or_add_and a b, and_comm a b)

module _ (note s t : List ℕ) (v : ℕ) (row : List ℕ) (fits : 8 * v + 8 ≤ length t) (size : length t ≡ length s) (st : Below s t) (h : Notes note s t) where
  noted_at : (a : ℕ) → a < 8 → get_or (noted note t v row) a 0 ≡ bit_or (get_or note a 0) (minus (get_or row a 0) (get_or t (8 * v + a) 0))
  noted_at a l = table_at (λ b. bit_or (get_or note b 0) (minus (get_or row b 0) (get_or t (8 * v + b) 0))) 8 a l

  -- one row more
  pub notes_more : Notes (noted note t v row) s (grown t v row 8)
  notes_more = record {
    none = λ all.
        let parts : (a : ℕ) → a < 8 → (get_or note a 0 ≡ 0) × (minus (get_or row a 0) (get_or t (8 * v + a) 0) ≡ 0) =
        λ a l. or_none (get_or note a 0) (minus (get_or row a 0) (get_or t (8 * v + a) 0)) (sym (noted_at a l) ∙ all a l) in
        replaced_still t (8 * v) (grows t v row) 0 8 (λ a l. lacks_none _ _ (parts a l).1) ∙ h.none (λ a l. (parts a l).0);
    some = λ same a l.
        let old : t ≡ s = squeezed s t (grown t v row 8) size st (below_grown t v row 8 fits) same in
        let still : grown t v row 8 ≡ t = same ∙ sym old in
        noted_at a l
        ∙ ap₂ bit_or (h.some old a l) (lacks_some _ _ (sym (grown_at t v row 8 a l fits) ∙ ap (λ (q : List ℕ). get_or q (8 * v + a) 0) still));
  }

-- all columns of a note
all_none : (note : List ℕ) (m : ℕ) → in_all note m ≡ 0 → (a : ℕ) → a < m → get_or note a 0 ≡ 0
unfolding in_all
all_none note zero e a l = absurd (omega arith)
all_none note (suc m) e a l =
    let parts = or_none (in_all note m) (get_or note m 0) e in
    below_more (λ x. get_or note x 0 ≡ 0) m (all_none note m parts.0) parts.1 a (omega arith)

none_all : (note : List ℕ) (m : ℕ) → ((a : ℕ) → a < m → get_or note a 0 ≡ 0) → in_all note m ≡ 0
unfolding in_all
none_all note zero h = refl
none_all note (suc m) h = ap₂ bit_or (none_all note m (λ a l. h a (omega arith))) (h m (le_refl (suc m)))

-- a note tells whether a set was altered
pub tells : (note s t : List ℕ) (b : Bool) → Notes note s t → b ≡ not (eqb (in_all note 8) 0) → Altered b s t
tells note s t b h e = subst (λ (x : Bool). Altered x s t) (sym e) (by (in_all note 8) refl)
  where
    by : (x : ℕ) → in_all note 8 ≡ x → Altered (not (eqb x 0)) s t
    by zero q = h.none (all_none note 8 q)
    by (suc x) q = subst (λ (y : Bool). Altered (not y) s t) (sym (eqb-suc-zero x)) (λ (same : t ≡ s). let none : in_all note 8 ≡ 0 = none_all note 8 (h.some same) in absurd (omega (arith, none)))

-- ---- the steps of a round

module _ (es : List ℕ) (along : Bool) (gives passes : List ℕ) where
  abbrev pub step : List ℕ → ℕ → List ℕ
  step s i = relaxed_row es along gives passes s i

  pub step_length : (s : List ℕ) (i : ℕ) → length (step s i) ≡ length s
  step_length s i = grown-length s (near es along i) (handed_row gives passes s (far es along i)) 8

  -- a round at work: the first j edges of the order have been taken, and the note says what that added
  pub record Sweeping (order old : List ℕ) (j : ℕ) (sets note : List ℕ) : Type 0 where
    pub is : sets ≡ swept step order along old j
    pub within : j ≤ length order
    pub notes : Notes note old sets

  pub sweeping_none : (order s : List ℕ) {r : Carry} → r ≡ record { vertex = length s; row = replicate 8 0; note = replicate 8 0 }
      → Sweeping order s 0 s r.note × Recent s r
  unfolding swept
  sweeping_none order s e = (
    record { is = refl; within = zero-le; notes = subst (λ (r : Carry). Notes r.note s s) (sym e) (notes_none s) },
    recent_none s (ap (λ (r : Carry). r.vertex) e),
  )

  -- the row of an edge's near end
  pub near_fits : (s t : List ℕ) (i : ℕ) → Tables es gives passes s → length t ≡ length s → i < edge_count es → 8 * near es along i + 8 ≤ length t
  near_fits s t i h e l = omega (arith, near_lt h.ends along i l, h.whole)

  module _ {order : List ℕ} (ord : Order (edge_count es) order) where
    pub swept-length : (s : List ℕ) (j : ℕ) → j ≤ length order → length (swept step order along s j) ≡ length s
    swept-length s = swept_keeps ord along step (λ t. length t ≡ length s) (λ t i l e. step_length t i ∙ e) s refl

    rounds-length : (s : List ℕ) (r : ℕ) → length (rounds step order along s r) ≡ length s
    rounds-length s = rounds_keeps ord along step (λ t. length t ≡ length s) (λ t i l e. step_length t i ∙ e) s refl

    pub swept_below : (s : List ℕ) → Tables es gives passes s → (j : ℕ) → j ≤ length order → (length (swept step order along s j) ≡ length s) × Below s (swept step order along s j)
    swept_below s h =
        swept_keeps ord along step (λ t. (length t ≡ length s) × Below s t)
        (λ t i l b. (step_length t i ∙ b.0, λ x. le_trans (b.1 x) (below_grown t (near es along i) (handed_row gives passes t (far es along i)) 8 (near_fits s t i h b.0 l) x)))
        s (refl, λ x. le_refl _)

    module _ {s t note : List ℕ} {j : ℕ} (w : Sweeping order s j t note) where
      pub sweeping_length : length t ≡ length s
      sweeping_length = ap length w.is ∙ swept-length s j w.within

      -- one more edge
      pub sweeping_more : {u new : List ℕ} {i : ℕ} → Tables es gives passes s → j < length order → i ≡ turn order along j → u ≡ step t i
          → new ≡ noted note t (near es along i) (handed_row gives passes t (far es along i))
          → Sweeping order s (j + 1) u new
      unfolding swept
      sweeping_more {u} {new} {i} h l is made now =
          let row = handed_row gives passes t (far es along i) in
          let b = swept_below s h j (le_of_lt l) in
          record {
            is = made ∙ ap (step t) is ∙ ap (λ (q : List ℕ). step q (turn order along j)) w.is ∙ ap (swept step order along s) (sym (add-one j));
            within = omega arith;
            notes =
                subst (λ (q : List ℕ). Notes new s q) (sym made)
                (subst (λ (q : List ℕ). Notes q s (step t i)) (sym now)
                (notes_more note s t (near es along i) row (near_fits s t i h sweeping_length (subst (λ (x : ℕ). x < edge_count es) (sym is) (turn_lt ord along j l))) sweeping_length (subst (Below s) (sym w.is) b.1) w.notes));
          }

      -- the whole round, and whether it altered a set
      pub sweeping_done : {b : Bool} → length order ≤ j → b ≡ not (eqb (in_all note 8) 0) → Advanced (swept step order along s (length order)) s b t
      sweeping_done {b} h e = record {
        sets = w.is ∙ ap (swept step order along s) (le_antisymm w.within h);
        told = tells note s t b w.notes e;
      }

-- tables for sets are tables for as many others
pub tables : (es gives passes s t : List ℕ) → Tables es gives passes s → length t ≡ length s → Tables es gives passes t
tables es gives passes s t h e = record {
  ends = subst (λ (x : ℕ). Ends es (x / 8)) (sym e) h.ends;
  whole = e ∙ h.whole ∙ ap (λ (x : ℕ). 8 * (x / 8)) (sym e);
  gives_all = h.gives_all ∙ sym e;
  passes_all = h.passes_all ∙ sym e;
}

-- ---- going on until a round alters nothing

module _ (es order : List ℕ) (along : Bool) (gives passes : List ℕ) (n : ℕ) where
  -- r rounds over the empty sets of n vertices
  abbrev made : ℕ → List ℕ
  made r = rounds_row es order along gives passes n r

  pub going_none : (t : List ℕ) → t ≡ replicate (8 * n) 0 → Going es order along gives passes n t 0
  unfolding rounds
  going_none t e = record { sets = e; most = zero-le; altered = λ j h. absurd (omega arith) }

  -- where a round altered none, no later one does
  pub rest : (r : ℕ) → made (suc r) ≡ made r → (m : ℕ) → r ≤ m → made m ≡ made r
  unfolding rounds
  rest r same = le_ind (λ m. made m ≡ made r) refl (λ m h e. ap (λ (s : List ℕ). swept (relaxed_row es along gives passes) order along s (length order)) e ∙ same)

  module _ (ord : Order (edge_count es) order) where
    pub made_length : (r : ℕ) → length (made r) ≡ 8 * n
    made_length r = rounds-length es along gives passes ord (replicate (8 * n) 0) r ∙ length-replicate (8 * n) 0

  module _ (ord : Order (edge_count es) order) (ends : Ends es n) where
    -- each column goes its own way
    pub column_made : (a : ℕ) → a < 8 → (r : ℕ) → column (made r) n a ≡ after es along (column gives n a) (column passes n a) ord n r
    column_made a l r =
        (rounds_both ord along (relaxed_row es along gives passes) (relaxed es along (column gives n a) (column passes n a))
        (λ s t. (length s ≡ 8 * n) × (column s n a ≡ t))
        (λ s t i listed h. (
          step_length es along gives passes s i ∙ h.0,
          column-relaxed n a l es along gives passes s i ends listed h.0 ∙ ap (λ (c : List ℕ). relaxed es along (column gives n a) (column passes n a) c i) h.1,
        ))
        (replicate (8 * n) 0) (replicate n 0) (length-replicate (8 * n) 0, column-cleared n a l) r).1

    column_ends : (a : ℕ) → a < 8 → (r : ℕ) → n ≤ r → column (made r) n a ≡ solution es along (column gives n a) (column passes n a) n
    column_ends a l r h = column_made a l r ∙ ends_alike es along (column gives n a) (column passes n a) n ends ord r h

    -- after as many rounds as vertices no set is altered
    further : (r : ℕ) → n ≤ r → made (suc r) ≡ made r
    further r h = columns_all n (made (suc r)) (made r) (made_length ord (suc r)) (made_length ord r) (λ a l. column_ends a l (suc r) (omega arith) ∙ sym (column_ends a l r h))

    -- one more, and whether it altered a set
    module _ (t u : List ℕ) (b : Bool) (r : ℕ) (g : Going es order along gives passes n t r) (x : Advanced (swept (relaxed_row es along gives passes) order along t (length order)) t b u) where
      now_made : u ≡ made (suc r)
      unfolding rounds
      now_made = x.sets ∙ ap (λ (s : List ℕ). swept (relaxed_row es along gives passes) order along s (length order)) g.sets

      pub going_more : b ≡ true → Going es order along gives passes n u (r + 1)
      going_more did =
          let new : made (suc r) ≡ made r → ⊥ = λ same. subst (λ (y : Bool). Altered y t u) did x.told (now_made ∙ same ∙ sym g.sets) in
          record {
            sets = now_made ∙ ap made (sym (add-one r));
            most = elim (dec_lt r n) [ yes l ↦ omega arith | no l ↦ absurd (new (further r (omega arith))) ];
            altered = below_more (λ j. made (suc j) ≡ made j → ⊥) r g.altered new;
          }

      -- where it altered none, no later one would
      pub going_stops : b ≡ false → Solved es order along gives passes n (r + 1) u
      going_stops none =
          let old : u ≡ made r = subst (λ (y : Bool). Altered y t u) none x.told ∙ g.sets in
          let same : made (suc r) ≡ made r = sym now_made ∙ old in
          let all : made n ≡ made r = rest r same n g.most in
          let back : r ≡ r + 1 - 1 = omega arith in
          record {
            size = ap length old ∙ made_length ord r;
            sets = λ a l. ap (λ (s : List ℕ). column s n a) (old ∙ sym all) ∙ column_ends a l n (le_refl n);
            counted = record {
              some = omega arith;
              most = omega (arith, g.most);
              altered = λ j h. g.altered j (omega arith);
              still = ap made (add-one r) ∙ same ∙ ap made back;
            };
          }
