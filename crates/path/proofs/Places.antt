-- The search for an edge: those from one vertex, and of these the half in which it is.
-- Assumes nothing.
use mathlib.Core.Path.{◌≡◌, refl, sym, ap, subst, ◌∙◌}
use mathlib.Core.Bool.{true, false, cond, and-eq-true_iff}
use mathlib.Core.List.{List}
use mathlib.Core.Logic.{⊎_elim}
use Prim.Native.Nat.{ℕ, ◌+◌, ◌-◌, ◌/◌, ◌≤◌, ◌<◌}
use native.Mathlib.Nat.{le_refl, eq-or-lt_of_le}
use native.Mathlib.Omega.{arith}
use borrow.Author.Count.{below_more}
use borrow.Author.Tests.{eq-eqb, leb-true, leb-false}
use lib.Dec.{leb}
use lib.ListN.{length, get_or, set, length-set}
use lib.Seq.{get_or-set_same, get_or-set_other}
use Rattle.path.specs.Paths.{joins, is_edge}
use Rattle.path.specs.Places.{RowStart, Starts}
use Rattle.path.proofs.Rising.{ends, from_rise, to_rise}
use Rattle.routine.specs.Edges.{edge_of}
use Rattle.routine.specs.Layout.{vertices, edges}
use Rattle.routine.specs.Reader.{WellFormed}
use Rattle.words.proofs.Sums.{none_below}
use Rattle.words.proofs.Tests.{at_cond, by_test}

-- ---- where the edges from each vertex start

pub first_start : (file : List ℕ) → RowStart file 0 0
first_start file = record { within = omega arith; earlier = λ n h. absurd (omega arith); later = λ n h l. omega arith }

module _ {file : List ℕ} {v : ℕ} where
  -- the rows of v and of the next vertex do not overlap
  pub starts_rise : {at next : ℕ} → RowStart file v at → RowStart file (v + 1) next → at ≤ next
  starts_rise {at} {next} r s =
      by_test (leb at next) (leb-true at next)
      (λ f. let l = leb-false at next f in absurd (omega (arith, r.within, r.earlier next l, s.later next (le_refl next) (omega (arith, r.within)))))

-- the edges from v go up to i: i is the end, or leaves a later vertex
pub record InRow (file : List ℕ) (v i : ℕ) : Type 0 where
  pub within : i ≤ edges file
  pub earlier : (n : ℕ) → n < i → (edge_of file n).from < v + 1
  pub later : (n : ℕ) → i ≤ n → n < edges file → v ≤ (edge_of file n).from

pub row_begin : {file : List ℕ} {v at : ℕ} → RowStart file v at → InRow file v at
row_begin r = record { within = r.within; earlier = λ n h. omega (arith, r.earlier n h); later = r.later }

module _ {file : List ℕ} {v i : ℕ} (r : InRow file v i) where
  pub row_next : i < edges file → (edge_of file i).from ≡ v → InRow file v (i + 1)
  row_next h e = record {
    within = omega arith;
    earlier = λ n l. below_more (λ n. (edge_of file n).from < v + 1) i r.earlier (omega (arith, e)) n (omega arith);
    later = λ n l. r.later n (omega arith);
  }

  -- edge i leaves a later vertex, and so do those behind it
  pub row_stop : WellFormed file → i < edges file → ((edge_of file i).from ≡ v → ⊥) → RowStart file (v + 1) i
  row_stop well h ne =
      let beyond : v + 1 ≤ (edge_of file i).from = omega (arith, r.later i (le_refl i) h, ne) in
      record {
        within = r.within;
        earlier = r.earlier;
        later = λ n l m. ⊎_elim
            (λ (e : i ≡ n). subst (λ (k : ℕ). v + 1 ≤ (edge_of file k).from) e beyond)
            (λ (g : i < n). omega (arith, beyond, from_rise well i n g m))
            (eq-or-lt_of_le {n = i} {m = n} l);
      }

  pub row_done : edges file ≤ i → RowStart file (v + 1) i
  row_done h = record { within = r.within; earlier = r.earlier; later = λ n l m. absurd (omega arith) }

-- the table, filled in for each vertex before v
pub record StartsTo (file old starts : List ℕ) (v : ℕ) : Type 0 where
  pub sized : length starts ≡ length old
  pub are : (u : ℕ) → u < v → RowStart file u (get_or starts u 0)

pub starts_begin : (file old : List ℕ) → StartsTo file old old 0
starts_begin file old = record { sized = refl; are = λ u h. absurd (omega arith) }

pub starts_next : {file old starts : List ℕ} {v at : ℕ} → StartsTo file old starts v → v < length old → RowStart file v at → StartsTo file old (set starts v at) (v + 1)
starts_next {file} {old} {starts} {v} {at} t room r = record {
  sized = simp length-set t.sized;
  are = λ u h. below_more (λ u. RowStart file u (get_or (set starts v at) u 0)) v
      (λ u l. subst (RowStart file u) (sym (get_or-set_other starts v u at 0 (λ e. omega arith))) (t.are u l))
      (subst (RowStart file v) (sym (get_or-set_same starts v at 0 (omega (arith, t.sized)))) r)
      u (omega arith);
}

-- ---- the search

-- `size` edges from `low` on leave v, and an edge from v to w is one of them
pub record Among (file : List ℕ) (v w low size : ℕ) : Type 0 where
  pub listed : low + size ≤ edges file
  pub leave : (n : ℕ) → low ≤ n → n < low + size → (edge_of file n).from ≡ v
  pub has : (n : ℕ) → n < edges file → joins file v w n ≡ true → (low ≤ n) × (n < low + size)

-- the row of v
pub among_row : {file starts : List ℕ} {v : ℕ} (w : ℕ) → Starts file starts → v < vertices file → Among file v w (get_or starts v 0) (get_or starts (v + 1) 0 - get_or starts v 0)
among_row {file} {starts} {v} w s h =
    let r = s.are v (omega arith) in
    let t = s.are (v + 1) (omega arith) in
    let up = starts_rise r t in
    record {
      listed = omega (arith, up, t.within);
      leave = λ n l m. omega (arith, r.later n l (omega (arith, up, m, t.within)), t.earlier n (omega (arith, up, m)));
      has = λ n l j.
          let e = (ends file v w n j).0 in (
            by_test (leb (get_or starts v 0) n) (leb-true (get_or starts v 0) n) (λ f. absurd (omega (arith, e, r.earlier n (leb-false (get_or starts v 0) n f)))),
            by_test (leb (get_or starts (v + 1) 0) n) (λ f. absurd (omega (arith, e, t.later n (leb-true (get_or starts (v + 1) 0) n f) l))) (λ f. omega (arith, up, leb-false (get_or starts (v + 1) 0) n f)),
          );
    }

module _ {file : List ℕ} {v w low size : ℕ} (a : Among file v w low size) where
  -- the half in which an edge to w is
  pub among_half : WellFormed file → 1 < size → Among file v w (cond (leb (edge_of file (low + size / 2)).to w) (low + size / 2) low) (size - size / 2)
  among_half well h =
      let half = size / 2 in
      at_cond (λ l. Among file v w l (size - half)) (leb (edge_of file (low + half)).to w)
      (λ t. record {
        listed = omega (arith, a.listed);
        leave = λ n l m. a.leave n (omega arith) (omega arith);
        has = λ n l j.
            let q = ends file v w n j in
            let p = a.has n l j in (
              by_test (leb (low + half) n) (leb-true (low + half) n)
                  (λ f. absurd (omega (arith, q.1, leb-true (edge_of file (low + half)).to w t, to_rise well n (low + half) (leb-false (low + half) n f) (omega (arith, a.listed)) (q.0 ∙ sym middle)))),
              omega (arith, p.1),
            );
      })
      (λ f. record {
        listed = omega (arith, a.listed);
        leave = λ n l m. a.leave n l (omega arith);
        has = λ n l j.
            let q = ends file v w n j in
            let p = a.has n l j in (
              p.0,
              by_test (leb (low + half) n)
                  (λ g. ⊎_elim
                  (λ (s : low + half ≡ n). absurd (omega (arith, ap (λ (k : ℕ). (edge_of file k).to) s, q.1, leb-false (edge_of file (low + half)).to w f)))
                  (λ (m : low + half < n). absurd (omega (arith, q.1, leb-false (edge_of file (low + half)).to w f, to_rise well (low + half) n m l (middle ∙ sym q.0))))
                  (eq-or-lt_of_le {n = low + half} {m = n} (leb-true (low + half) n g)))
                  (λ g. omega (arith, leb-false (low + half) n g)),
            );
      })
    where
      middle : (edge_of file (low + size / 2)).from ≡ v
      middle = a.leave (low + size / 2) (omega arith) (omega arith)

  -- none is left
  pub none_left : size ≡ 0 → is_edge file v w ≡ false
  unfolding is_edge
  none_left z = none_below (joins file v w) (edges file) (λ n h. by_test (joins file v w n) (λ t. absurd (omega (arith, z, a.has n h t))) (λ f. f))

  -- one is left, and leads elsewhere
  pub other_left : size ≤ 1 → ((edge_of file low).to ≡ w → ⊥) → is_edge file v w ≡ false
  unfolding is_edge
  other_left o ne =
      none_below (joins file v w) (edges file)
      (λ n h. by_test (joins file v w n)
      (λ t.
      let p = a.has n h t in
      let here : n ≡ low = omega (arith, o, p.0, p.1) in
      absurd (ne (ap (λ (k : ℕ). (edge_of file k).to) (sym here) ∙ (ends file v w n t).1)))
      (λ f. f))

  -- one is left, and leads to w
  pub one_left : 0 < size → (edge_of file low).to ≡ w → (low < edges file) × (joins file v w low ≡ true)
  one_left some e =
      (omega (arith, a.listed), (and-eq-true_iff _ _).1 (eq-eqb (edge_of file low).from v (a.leave low (le_refl low) (omega arith)), eq-eqb (edge_of file low).to w e))

-- no edge leaves what is no vertex
pub outside : {file : List ℕ} → WellFormed file → (v w : ℕ) → vertices file ≤ v → is_edge file v w ≡ false
unfolding is_edge
outside {file} well v w h =
    none_below (joins file v w) (edges file)
    (λ n l. by_test (joins file v w n) (λ t. absurd (omega (arith, (ends file v w n t).0, (well.edge_limits {i = n} l).from_below))) (λ f. f))
