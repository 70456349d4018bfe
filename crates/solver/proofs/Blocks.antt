-- Laws of blocks: an edge that alters nothing goes on altering nothing while its far end is as it was; so a round may pass over a block
-- that is not pending.
-- Assumes nothing.
use mathlib.Core.Path.{◌≡◌, refl, sym, ap, subst, ◌∙◌}
use mathlib.Core.Bool.{Bool, true, false, not, ◌&&◌, ◌||◌, true≢false, or-true}
use mathlib.Core.List.{List, [], ◌∷◌}
use mathlib.Core.Logic.{◌⊎◌, inl, inr, ⊎_elim}
use Prim.Native.Nat.{ℕ, ◌+◌, ◌-◌, ◌*◌, ◌/◌, ◌^◌, ◌≤◌, ◌<◌}
use native.Mathlib.Nat.{le_refl, le_of_lt, lt_of_le_of_lt, eq-or-lt_of_le, eq-zero-or-pos}
use native.Mathlib.Decide.{le_ind, dec_lt, ℕ_discrete}
use native.Mathlib.Numerals.{add-one}
use native.Mathlib.Omega.{arith}
use borrow.Author.Count.{below_more}
use borrow.Author.Tests.{eqb-true, eq-eqb}
use lib.Bits.{bit_and, bit_or}
use lib.Dec.{eqb}
use lib.Count.{count_trailing_zeros}
use lib.ListN.{length, get_or, set, replicate}
use lib.Pow.{shr_le}
use lib.Seq.{get_or-set_same}
use Rattle.sets.specs.Sets.{bit, has, minus}
use Rattle.sets.proofs.Laws.{bit_or_lem, has_shr, has_or, has-minus, has_zero, has_single, has_with, has_full, has_out, lowest_has, lowest_none}
use Rattle.words.proofs.Replaced.{replaced_other, replaced_still}
use Rattle.words.proofs.Tables.{rows_same, at_set}
use Rattle.words.proofs.Tests.{neither}
use Rattle.flow.specs.Order.{Order, max_edges}
use Rattle.flow.specs.Paths.{edge_count}
use Rattle.flow.specs.Solver.{near, far, turn, handed, handed_row, grown, swept, noted, in_all, Tables, Altered, Advanced}
use Rattle.flow.proofs.Exact.{or_subset}
use Rattle.flow.proofs.Rounds.{turn_lt}
use Rattle.flow.proofs.Rows.{grows, grown_at, Below, below_grown, squeezed, step, near_fits, swept_below, swept-length, tables, Notes, notes_none, notes_more, tells}
use Rattle.solver.specs.Blocks.{block_of, block_start, NextPending, Marked, Closed, Took, Taken, TookBlock}
use Rattle.solver.specs.declared.Progress.{Progress}

-- a union with a part of it, and with a part of one of the two
or_again : (x r : ℕ) → bit_or (bit_or x r) r ≡ bit_or x r
or_again x r = or_subset (bit_or x r) r (λ k. omega (arith, bit_or_lem x r k))

or_more : (x y r : ℕ) → bit_or x r ≡ x → bit_or (bit_or x y) r ≡ bit_or x y
or_more x y r e = or_subset (bit_or x y) r (λ k. omega (arith, bit_or_lem x y k, bit_or_lem x r k, ap (λ (m : ℕ). bit m k) e))

-- ---- sets of blocks

-- what stands above a shift
above : (m b k : ℕ) → b ≤ k → has (m / 2 ^ b) (k - b) ≡ has m k
above m b k h = has_shr m b (k - b) ∙ ap (has m) (let e : b + (k - b) ≡ k = omega arith in e)

pub next_end : (m b : ℕ) → b ≤ 64 → 64 ≤ b → NextPending m b 64
next_end m b h l = record { onward = h; most = le_refl 64; shut = λ k from up. absurd (omega arith); found = λ l. absurd (omega arith) }

pub next_none : (m b : ℕ) → b ≤ 64 → m / 2 ^ b ≡ 0 → NextPending m b 64
next_none m b h none = record {
  onward = h;
  most = le_refl 64;
  shut = λ k from up. sym (above m b k from) ∙ ap (λ (x : ℕ). has x (k - b)) none ∙ has_zero (k - b);
  found = λ l. absurd (omega arith);
}

pub next_some : (m b : ℕ) → m < 2 ^ 64 → b ≤ 64 → (m / 2 ^ b ≡ 0 → ⊥) → NextPending m b (b + count_trailing_zeros 64 (m / 2 ^ b))
next_some m b fits h some = record {
  onward = omega arith;
  most = elim (dec_lt 64 (b + z)) [
    | yes l ↦ absurd (true≢false (sym lowest ∙ has_out 64 m (b + z) fits (omega arith)))
    | no l ↦ omega arith
  ];
  shut = λ k from up. sym (above m b k from) ∙ lowest_none 64 (m / 2 ^ b) (k - b) (omega arith);
  found = λ _. lowest;
}
  where
    z : ℕ
    z = count_trailing_zeros 64 (m / 2 ^ b)

    lowest : has m (b + z) ≡ true
    lowest =
        sym (has_shr m b z)
        ∙ lowest_has 64 (m / 2 ^ b) (⊎_elim (λ e. absurd (some e)) (λ l. l) (eq-zero-or-pos (m / 2 ^ b))) (lt_of_le_of_lt (shr_le m b) fits)

-- ---- marks

-- one block more at the far end of its edge
pub marked_more : (es order : List ℕ) (along : Bool) (marks : List ℕ) (j : ℕ) → far es along (turn order along j) < length marks
    → ((k : ℕ) → k < j → has (get_or marks (far es along (turn order along k)) 0) (block_of k) ≡ true)
    → (k : ℕ) → k < j + 1
    → has (get_or (set marks (far es along (turn order along j)) (bit_or (get_or marks (far es along (turn order along j)) 0) (2 ^ block_of j))) (far es along (turn order along k)) 0) (block_of k) ≡ true
marked_more es order along marks j room first =
    below_more (λ k. has (get_or (set marks v m) (far es along (turn order along k)) 0) (block_of k) ≡ true) j
    (λ k l. at_set (λ u x. u ≡ far es along (turn order along k) → has x (block_of k) ≡ true) marks v m (far es along (turn order along k))
    (λ e. has_or (get_or marks v 0) (2 ^ block_of j) (block_of k) ∙ ap (λ (y : Bool). y || has (2 ^ block_of j) (block_of k)) (ap (λ (u : ℕ). has (get_or marks u 0) (block_of k)) e ∙ first k l))
    (λ _. first k l) refl)
    (ap (λ (x : ℕ). has x (block_of j)) (get_or-set_same marks v m 0 room) ∙ has_with (get_or marks v 0) (block_of j) (block_of j)
    ∙ ap (λ (y : Bool). has (get_or marks v 0) (block_of j) || y) (eq-eqb (block_of j) (block_of j) refl) ∙ or-true (has (get_or marks v 0) (block_of j)))
  where
    v : ℕ
    v = far es along (turn order along j)

    m : ℕ
    m = bit_or (get_or marks v 0) (2 ^ block_of j)

-- ---- edges that alter nothing

module _ (es : List ℕ) (along : Bool) (gives passes : List ℕ) where
  -- what a vertex hands on, once the row of another has grown
  handed_other : (s : List ℕ) (v : ℕ) (row : List ℕ) (u : ℕ) → (u ≡ v → ⊥) → handed_row gives passes (grown s v row 8) u ≡ handed_row gives passes s u
  handed_other s v row u other =
      rows_same (λ a. handed gives passes (grown s v row 8) (8 * u + a) ∷ []) (λ a. handed gives passes s (8 * u + a) ∷ []) 8
      (λ a l. ap (λ (x : ℕ). bit_or (get_or gives (8 * u + a) 0) (bit_and x (get_or passes (8 * u + a) 0)) ∷ [])
      (replaced_other s (8 * v) (grows s v row) 0 8 (8 * u + a) (λ b lb eq. other (omega arith))))

  -- an edge whose far end was left as it was, and whose near end holds what it brings, alters nothing
  holds_still : (s : List ℕ) (v : ℕ) (row : List ℕ) (i : ℕ) → (far es along i ≡ v → ⊥)
      → ((a : ℕ) → a < 8 → bit_or (get_or (grown s v row 8) (8 * near es along i + a) 0) (get_or (handed_row gives passes s (far es along i)) a 0) ≡ get_or (grown s v row 8) (8 * near es along i + a) 0)
      → step es along gives passes (grown s v row 8) i ≡ grown s v row 8
  holds_still s v row i other has-it =
      ap (λ (r : List ℕ). grown (grown s v row 8) (near es along i) r 8) (handed_other s v row (far es along i) other)
      ∙ replaced_still (grown s v row 8) (8 * near es along i) (grows (grown s v row 8) (near es along i) (handed_row gives passes s (far es along i))) 0 8 has-it

  -- an edge alters nothing right after it was taken
  again_still : (s : List ℕ) (i : ℕ) → 8 * near es along i + 8 ≤ length s → (far es along i ≡ near es along i → ⊥)
      → step es along gives passes (step es along gives passes s i) i ≡ step es along gives passes s i
  again_still s i fits other =
      let v = near es along i in
      let r = handed_row gives passes s (far es along i) in
      holds_still s v r i other
      (λ a l. let e = grown_at s v r 8 a l fits in
      ap (λ (x : ℕ). bit_or x (get_or r a 0)) e ∙ or_again (get_or s (8 * v + a) 0) (get_or r a 0) ∙ sym e)

  -- and goes on altering nothing when another row grows
  still_still : (s : List ℕ) (v : ℕ) (row : List ℕ) (i : ℕ) → 8 * v + 8 ≤ length s → 8 * near es along i + 8 ≤ length s → (far es along i ≡ v → ⊥)
      → step es along gives passes s i ≡ s → step es along gives passes (grown s v row 8) i ≡ grown s v row 8
  still_still s v row i fits fits-near other still =
      let u = near es along i in
      let r = handed_row gives passes s (far es along i) in
      let held : (a : ℕ) → a < 8 → bit_or (get_or s (8 * u + a) 0) (get_or r a 0) ≡ get_or s (8 * u + a) 0 =
      λ a l. sym (grown_at s u r 8 a l fits-near) ∙ ap (λ (q : List ℕ). get_or q (8 * u + a) 0) still in
      holds_still s v row i other
      (λ a l. elim (ℕ_discrete u v) [
        | yes e ↦
            let g : get_or (grown s v row 8) (8 * u + a) 0 ≡ bit_or (get_or s (8 * u + a) 0) (get_or row a 0) =
            subst (λ (x : ℕ). get_or (grown s v row 8) (8 * x + a) 0 ≡ bit_or (get_or s (8 * x + a) 0) (get_or row a 0)) (sym e) (grown_at s v row 8 a l fits) in
            ap (λ (x : ℕ). bit_or x (get_or r a 0)) g ∙ or_more (get_or s (8 * u + a) 0) (get_or row a 0) (get_or r a 0) (held a l) ∙ sym g
        | no e ↦
            let g : get_or (grown s v row 8) (8 * u + a) 0 ≡ get_or s (8 * u + a) 0 = replaced_other s (8 * v) (grows s v row) 0 8 (8 * u + a) (λ b lb eq. e (omega arith)) in
            ap (λ (x : ℕ). bit_or x (get_or r a 0)) g ∙ held a l ∙ sym g
      ])

-- ---- a round at work

-- what is not in a difference, nor in what was taken away, was not there
but : (x y : Bool) → y ≡ false → (x && not y) ≡ false → x ≡ false
but true y none h = sym (ap not none) ∙ h
but false y none h = refl

-- turns are before a place, or from it on
side : (j k : ℕ) → (k < j) ⊎ (j ≤ k)
side j k = elim (dec_lt k j) [ yes l ↦ inl l | no l ↦ inr (omega arith) ]

module _ (es : List ℕ) (along : Bool) (gives passes : List ℕ) {order : List ℕ} (ord : Order (edge_count es) order) (old : List ℕ) where
  -- j turns of a round taken, those up to `to` come next
  abbrev At : ℕ → ℕ → List ℕ → Progress → Type 0
  At j to s p = Taken es order along gives passes old j to s p

  taken-length : {j to : ℕ} {s : List ℕ} {p : Progress} → j ≤ length order → At j to s p → length s ≡ length old
  taken-length {j} l w = ap length w.is ∙ swept-length es along gives passes ord old j l

  -- turns that alter nothing may be passed over
  pub passed : {j : ℕ} {s : List ℕ} {p : Progress} (m : ℕ) → At j j s p → j ≤ m → m ≤ length order
      → ((k : ℕ) → j ≤ k → k < m → has p.pending (block_of k) ≡ false) → At m m s p
  unfolding swept
  passed {j} {s} {p} m w h l none = record {
    is = le_ind (λ n. n ≤ m → s ≡ swept (step es along gives passes) order along old n) (λ _. w.is)
        (λ n from ih up. sym (w.closed n (omega arith) (none n from up) (inr from)) ∙ ap (λ (x : List ℕ). step es along gives passes x (turn order along n)) (ih (le_of_lt up)))
        m h (le_refl m);
    told = w.told;
    closed = λ k in-k shut _. w.closed k in-k shut (side j k);
  }

  -- and so may blocks that are not pending
  pub skipped : {s : List ℕ} {p : Progress} {a b : ℕ} → At (block_start (length order) a) (block_start (length order) a) s p → NextPending p.pending a b
      → At (block_start (length order) b) (block_start (length order) b) s p
  skipped {s} {p} {a} {b} w next =
      passed (block_start (length order) b) w (omega (arith, next.onward)) (omega arith)
      (λ k from up. next.shut (block_of k) (omega arith) (omega arith))

  -- a block is pending no longer once its turns come next
  opened : {j to : ℕ} {s : List ℕ} {p q : Progress} (b : ℕ) → j ≡ block_start (length order) b → to ≡ block_start (length order) (b + 1)
      → q ≡ record { pending = minus p.pending (2 ^ b); altered = p.altered } → At j j s p → At j to s q
  opened {j} {to} {s} {p} {q} b ej et eq w =
      subst (At j to s) (sym eq)
      (record {
        is = w.is;
        told = w.told;
        closed = λ k in-k shut out. w.closed k in-k (other k in-k out (eqb b (block_of k)) refl (sym (has-minus p.pending (2 ^ b) (block_of k)) ∙ shut)) (side j k);
      })
    where
      other : (k : ℕ) → k < length order → (k < j) ⊎ (to ≤ k) → (x : Bool) → eqb b (block_of k) ≡ x → (has p.pending (block_of k) && not (has (2 ^ b) (block_of k))) ≡ false
          → has p.pending (block_of k) ≡ false
      other k in-k out true e h = let here : b ≡ block_of k = eqb-true b (block_of k) e in ⊎_elim (λ l. absurd (omega (arith, ej))) (λ l. absurd (omega (arith, et))) out
      other k in-k out false e h = but (has p.pending (block_of k)) (has (2 ^ b) (block_of k)) (has_single b (block_of k) ∙ e) h

  -- the turn that is taken, those before it, and those that come after the ones up to `to`
  parts : {j to k : ℕ} → (k < j + 1) ⊎ (to ≤ k) → (k ≡ j) ⊎ ((k < j) ⊎ (to ≤ k))
  parts {j} {to} {k} out = ⊎_elim (λ l. ⊎_elim inl (λ h. inr (inl h)) (eq-or-lt_of_le (let h : k ≤ j = omega arith in h))) (λ l. inr (inr l)) out

  module _ {s : List ℕ} {marks : List ℕ} (h : Tables es gives passes s) (marked : Marked es order along marks) where
    row_fits : (k : ℕ) → k < length order → 8 * near es along (turn order along k) + 8 ≤ length s
    row_fits k l = near_fits es along gives passes s s (turn order along k) h refl (turn_lt ord along k l)

    -- one turn more
    pub took : {j to : ℕ} {t : List ℕ} {p q : Progress} → At j to s p → j < length order → Took es order along gives passes marks j s p t q → At (j + 1) to t q
    unfolding swept
    took {j} {to} {t} {p} {q} w l x =
        record {
          is = x.sets ∙ ap (λ (u : List ℕ). step es along gives passes u i) w.is ∙ ap (swept (step es along gives passes) order along old) (sym (add-one j));
          told = ⊎_elim
              (λ e. subst (λ (r : Progress). Altered r.altered old t) (sym e.1) (subst (λ (u : List ℕ). Altered p.altered old u) (sym e.0) w.told))
              (λ e. subst (λ (r : Progress). Altered r.altered old t) (sym e.1) (λ (back : t ≡ old). e.0 (back ∙ sym (grew back))))
              x.next;
          closed = λ k in-k shut out. ⊎_elim
              (λ e. subst (λ (u : List ℕ). step es along gives passes u (turn order along k) ≡ u) (sym e.0)
              (same k in-k (ap (λ (r : Progress). has r.pending (block_of k)) (sym e.1) ∙ shut) e.0 (parts out)))
              (λ e. subst (λ (u : List ℕ). step es along gives passes u (turn order along k) ≡ u) (sym x.sets)
              (grown_still k in-k
              (neither (has p.pending (block_of k)) (has (get_or marks v 0) (block_of k)) (sym (has_or p.pending (get_or marks v 0) (block_of k)) ∙ ap (λ (r : Progress). has r.pending (block_of k)) (sym e.1) ∙ shut))
              (parts out)))
              x.next;
        }
      where
        i : ℕ
        i = turn order along j

        v : ℕ
        v = near es along i

        row : List ℕ
        row = handed_row gives passes s (far es along i)

        -- where the round is back at its start, this turn began there
        grew : t ≡ old → s ≡ old
        grew back =
            squeezed old s t (taken-length (le_of_lt l) w)
            (subst (Below old) (sym w.is) (swept_below es along gives passes ord old (tables es gives passes s old h (sym (taken-length (le_of_lt l) w))) j (le_of_lt l)).1)
            (subst (Below s) (sym x.sets) (below_grown s v row 8 (row_fits j l)))
            back

        -- a turn that altered nothing
        same : (k : ℕ) → k < length order → has p.pending (block_of k) ≡ false → t ≡ s → (k ≡ j) ⊎ ((k < j) ⊎ (to ≤ k)) → step es along gives passes s (turn order along k) ≡ s
        same k in-k shut e place = ⊎_elim
            (λ here. ap (λ (y : ℕ). step es along gives passes s (turn order along y)) here ∙ sym x.sets ∙ e)
            (λ out. w.closed k in-k shut out)
            place

        -- one that altered a row: the edges of blocks that are not pending do not have that row as their far end
        grown_still : (k : ℕ) → k < length order → (has p.pending (block_of k) ≡ false) × (has (get_or marks v 0) (block_of k) ≡ false) → (k ≡ j) ⊎ ((k < j) ⊎ (to ≤ k))
            → step es along gives passes (grown s v row 8) (turn order along k) ≡ grown s v row 8
        grown_still k in-k shut place =
            let apart : far es along (turn order along k) ≡ v → ⊥ =
            λ e. true≢false (sym (marked.each k in-k) ∙ ap (λ (y : ℕ). has (get_or marks y 0) (block_of k)) e ∙ shut.1) in
            ⊎_elim
            (λ here. let turned = ap (turn order along) here in
            subst (λ (y : ℕ). step es along gives passes (grown s v row 8) y ≡ grown s v row 8) (sym turned)
            (again_still es along gives passes s i (row_fits j l) (λ e. apart (ap (far es along) turned ∙ e))))
            (λ out. still_still es along gives passes s v row (turn order along k) (row_fits j l) (row_fits k in-k) apart (w.closed k in-k shut.0 out))
            place

module _ (es : List ℕ) (along : Bool) (gives passes order : List ℕ) where
  -- where a round begins
  pub round_none : (s : List ℕ) (m : ℕ) → Closed es order along gives passes 0 0 s m → Taken es order along gives passes s 0 0 s (record { pending = m; altered = false })
  unfolding swept
  round_none s m closed = record { is = refl; told = refl; closed = closed }

  -- the whole round
  pub round_done : {old s : List ℕ} {p : Progress} → Taken es order along gives passes old (length order) (length order) s p
      → Advanced (swept (step es along gives passes) order along old (length order)) old p.altered s
  round_done w = record { sets = w.is; told = w.told }

  -- what one round leaves, the next begins with
  pub closed_next : {old s : List ℕ} {p : Progress} {j : ℕ} → Taken es order along gives passes old j j s p → Closed es order along gives passes 0 0 s p.pending
  closed_next {j = j} w k in-k shut _ = w.closed k in-k shut (side j k)

  -- with all blocks pending
  pub closed_all : (s : List ℕ) → length order ≤ max_edges → Closed es order along gives passes 0 0 s (2 ^ 64 - 1)
  closed_all s few k in-k shut _ = absurd (true≢false (sym (has_full 64 (block_of k) (omega arith)) ∙ shut))

-- ---- what the functions state

module _ (es : List ℕ) (along : Bool) (gives passes : List ℕ) where
  -- a note of what an edge added tells whether it altered a set
  pub told_by : (s : List ℕ) (i : ℕ) {t note : List ℕ} {b : Bool} → 8 * near es along i + 8 ≤ length s
      → note ≡ noted (replicate 8 0) s (near es along i) (handed_row gives passes s (far es along i)) → t ≡ step es along gives passes s i
      → b ≡ not (eqb (in_all note 8) 0) → Altered b s t
  told_by s i {t} {note} {b} fits now made e =
      let v = near es along i in
      let row = handed_row gives passes s (far es along i) in
      tells note s t b
      (subst (λ (u : List ℕ). Notes note s u) (sym made)
      (subst (λ (n : List ℕ). Notes n s (grown s v row 8)) (sym now) (notes_more (replicate 8 0) s s v row fits refl (λ x. le_refl _) (notes_none s))))
      e

  module _ (order s : List ℕ) (j : ℕ) {t : List ℕ} {i : ℕ} (turned : i ≡ turn order along j) (made : t ≡ step es along gives passes s i) where
    right : t ≡ step es along gives passes s (turn order along j)
    right = made ∙ ap (step es along gives passes s) turned

    pub took_none : {marks : List ℕ} (p : Progress) → t ≡ s → Took es order along gives passes marks j s p t p
    took_none p same = record { sets = right; next = inl (same, refl) }

    pub took_some : {marks : List ℕ} (p : Progress) {v : ℕ} → v ≡ near es along i → (t ≡ s → ⊥)
        → Took es order along gives passes marks j s p t (record { pending = bit_or p.pending (get_or marks v 0); altered = true })
    took_some {marks} p end new = record {
      sets = right;
      next = inr (new, ap (λ (u : ℕ). record { pending = bit_or p.pending (get_or marks u 0); altered = true }) (end ∙ ap (near es along) turned));
    }

  module _ {order : List ℕ} (ord : Order (edge_count es) order) where
    -- the turns of a block, from its start to the next one's
    pub block_done : {b from to j : ℕ} {before after : List ℕ} {p q₀ q : Progress} → from ≡ block_start (length order) b → to ≡ block_start (length order) (b + 1)
        → q₀ ≡ record { pending = minus p.pending (2 ^ b); altered = p.altered } → j ≡ to → length after ≡ length before
        → ((old : List ℕ) → Taken es order along gives passes old from to before q₀ → Taken es order along gives passes old j to after q)
        → TookBlock es order along gives passes b before p after q
    block_done {b} {from} {to} {j} {before} {after} {p} {q₀} {q} ef et eq ej size all = record {
      goes = λ old w.
          let taken = all old (opened es along gives passes ord old b ef et eq (subst (λ (x : ℕ). Taken es order along gives passes old x x before p) (sym ef) w)) in
          subst (λ (x : ℕ). Taken es order along gives passes old x x after q) et (subst (λ (x : ℕ). Taken es order along gives passes old x to after q) ej taken);
      size = size;
    }
