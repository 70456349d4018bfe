-- The edges of the expanded routine: the two inside each call, each edge of the file, and no others; they rise by from, then to; how many
-- there are.
-- Assumes nothing.
use mathlib.Core.Path.{◌≡◌, refl, sym, ap, ap₂, subst, ◌∙◌}
use mathlib.Core.Bool.{true, ◌&&◌, cond}
use mathlib.Core.List.{List, [], ◌∷◌}
use mathlib.Core.Logic.{◌↔◌, ◌⊎◌, inl, inr, ⊎_elim}
use Prim.Native.Nat.{ℕ, zero, suc, ◌+◌, ◌*◌, ◌≤◌, ◌<◌}
use native.Mathlib.Nat.{eq-or-lt_of_le}
use native.Mathlib.Numerals.{add-one}
use native.Mathlib.Omega.{arith}
use borrow.Author.Count.{below_more}
use borrow.Author.Tests.{ltb-true, eqb-true, lt-ltb, le-ltb, eq-eqb}
use lib.Dec.{eqb, ltb}
use lib.ListN.{length, get_or, length-append}
use Rattle.flow.specs.Paths.{Edge}
use Rattle.labels.proofs.Rules.Proper.{edge_count_lem, edge_from_lem, edge_to_is}
use Rattle.labels.specs.Events.{edge_bytes}
use Rattle.routine.specs.Edges.{edge_of, before}
use Rattle.routine.specs.Layout.{vertices, edges}
use Rattle.routine.specs.Reader.{WellFormed}
use Rattle.routine.specs.declared.edge.Edge.{Edge as Ends}
use Rattle.words.proofs.Lists.{Each, each_none, each_more, each_append, each_rows, each_as, each_at, Listed, listed_first, listed_left, listed_right, listed_row, InOrder, order_none, order_more, order_append, order_rows, order_next}
use Rattle.words.proofs.Sums.{total_add, total_same, total_const, total-turned, count_once, rows-total}
use Rattle.words.proofs.Tests.{at_cond, and_left, and_right, or_cases}
use Rattle.words.specs.Sums.{total, count_of}
use Rattle.words.specs.Tables.{rows}
use Rattle.calls.specs.Calls.{is_call_row}
use Rattle.calls.specs.Expands.{Joins, enters, leaves, between}
use Rattle.calls.specs.Expanded.{edge, inner_edges, outer_edge, edges_from, expanded_edges, expanded}
use Rattle.calls.specs.Parts.{first_vertex_of, last_of}
use Rattle.calls.proofs.Bytes.{no_edge, edge_count_is, edge_is}
use Rattle.calls.proofs.Parts.{first_last, call_last, last_below, first_rises}

-- ---- the order of edges

-- by from, then to
abbrev Less : Ends → Ends → Type 0
Less d e = (d.from < e.from) ⊎ ((d.from ≡ e.from) × (d.to < e.to))

less_before : (d e : Ends) → Less d e → before d e ≡ true
less_before d e (inl h) = rw (lt-ltb d.from e.from h)
less_before d e (inr h) = rw (le-ltb d.from e.from (omega (arith, h.0)), eq-eqb d.from e.from h.0, lt-ltb d.to e.to h.1)

before_less : (d e : Ends) → before d e ≡ true → Less d e
before_less d e = or_cases (ltb d.from e.from) (eqb d.from e.from && ltb d.to e.to)
    (λ h. inl (ltb-true d.from e.from h))
    (λ h. inr (eqb-true d.from e.from (and_left (eqb d.from e.from) _ h), ltb-true d.to e.to (and_right (eqb d.from e.from) _ h)))

less_trans : (c d e : Ends) → Less c d → Less d e → Less c e
less_trans c d e (inl g) (inl h) = inl (omega arith)
less_trans c d e (inl g) (inr h) = inl (omega (arith, h.0))
less_trans c d e (inr g) (inl h) = inl (omega (arith, g.0))
less_trans c d e (inr g) (inr h) = inr (g.0 ∙ h.0, omega (arith, g.1, h.1))

module _ (file : List ℕ) (w : WellFormed file) where
  -- ---- which they are

  abbrev IsJoin : Ends → Type 0
  IsJoin d = Joins file d.from d.to

  each_joins : Each IsJoin (expanded_edges file)
  unfolding expanded_edges
  each_joins =
      each_rows (edges_from file) (vertices file) (λ v in_v. each_append
      (at_cond (Each IsJoin) (is_call_row file v)
      (λ call. each_more (enters in_v call) (each_more (leaves in_v call) each_none))
      (λ _. each_none))
      (each_rows (outer_edge file v) (edges file) (λ i in_i. at_cond (Each IsJoin) (eqb (edge_of file i).from v)
      (λ e. each_more (between (record {
        place = i;
        listed = omega (arith, edge_count_lem file w.laid);
        leaves = edge_from_lem file i ∙ eqb-true (edge_of file i).from v e;
        enters = edge_to_is file i;
      })) each_none)
      (λ _. each_none))))

  -- each of them is listed
  listed_from : {v : ℕ} {d : Ends} → v < vertices file → Listed no_edge d (edges_from file v) → Listed no_edge d (expanded_edges file)
  unfolding expanded_edges
  listed_from {v} in_v = listed_row (edges_from file) (vertices file) v in_v

  joins_listed : {x y : ℕ} → Joins file x y → Listed no_edge (edge x y) (expanded_edges file)
  joins_listed (enters {v} in_v call) =
      listed_from in_v (listed_left (inner_edges file v) (rows (outer_edge file v) (edges file)) (rw call (listed_first _)))
  joins_listed (leaves {v} in_v call) =
      listed_from in_v (listed_left (inner_edges file v) (rows (outer_edge file v) (edges file)) (rw call (listed_right (edge (first_vertex_of file v) (first_vertex_of file v + 1) ∷ []) _ (listed_first []))))
  joins_listed (between {v} {u} e) =
      let i = e.place in
      let in_i : i < edges file = omega (arith, e.listed, edge_count_lem file w.laid) in
      let from-v : (edge_of file i).from ≡ v = sym (edge_from_lem file i) ∙ e.leaves in
      let to-u : (edge_of file i).to ≡ u = sym (edge_to_is file i) ∙ e.enters in
      listed_from (omega (arith, from-v, (w.edge_limits in_i).from_below))
      (listed_right (inner_edges file v) (rows (outer_edge file v) (edges file))
      (listed_row (outer_edge file v) (edges file) i in_i (rw (eq-eqb (edge_of file i).from v from-v, to-u) (listed_first []))))

  pub edges_exact : (x y : ℕ) → Edge (edge_bytes (expanded file)) x y ↔ Joins file x y
  edges_exact x y = (there, listed)
    where
      there : Edge (edge_bytes (expanded file)) x y → Joins file x y
      there e =
          let i = e.place in
          let in_i : i < length (expanded_edges file) = omega (arith, e.listed, edge_count_is file w.laid) in
          let from-x = sym (edge_from_lem (expanded file) i) ∙ e.leaves in
          let to-y = sym (edge_to_is (expanded file) i) ∙ e.enters in
          subst IsJoin (sym (edge_is file w.laid i in_i) ∙ ap₂ edge from-x to-y) (each_at each_joins no_edge i in_i)

      listed : Joins file x y → Edge (edge_bytes (expanded file)) x y
      listed j =
          let l = joins_listed j in
          let is : edge_of (expanded file) l.place ≡ edge x y = edge_is file w.laid l.place l.within ∙ l.is in
          record {
            place = l.place;
            listed = omega (arith, l.within, edge_count_is file w.laid);
            leaves = edge_from_lem (expanded file) l.place ∙ ap (λ (d : Ends). d.from) is;
            enters = edge_to_is (expanded file) l.place ∙ ap (λ (d : Ends). d.to) is;
          }

  -- ---- they rise

  -- so do the file's, each before all later ones
  file_next : (i : ℕ) → suc i < edges file → Less (edge_of file i) (edge_of file (suc i))
  file_next i h = before_less (edge_of file i) (edge_of file (suc i)) (rw add-one at (w.edges_rise i (omega arith)))

  file_rises : (i k : ℕ) → i < k → k < edges file → Less (edge_of file i) (edge_of file k)
  file_rises i zero h l = absurd (omega arith)
  file_rises i (suc k) h l =
      below_more (λ j. Less (edge_of file j) (edge_of file (suc k))) k
      (λ j g. less_trans (edge_of file j) (edge_of file k) (edge_of file (suc k)) (file_rises j k g (omega arith)) (file_next k l))
      (file_next k l)
      i (omega arith)

  pub from_rises : (i k : ℕ) → i ≤ k → k < edges file → (edge_of file i).from ≤ (edge_of file k).from
  from_rises i k h l = ⊎_elim
      (λ (e : i ≡ k). omega (arith, ap (λ (j : ℕ). (edge_of file j).from) e))
      (λ (g : i < k). ⊎_elim (λ less. omega arith) (λ same. omega (arith, same.0)) (file_rises i k g l))
      (eq-or-lt_of_le h)

  -- of two that leave one vertex the earlier enters a lower one
  to_rises : {v : ℕ} (i k : ℕ) → i < k → k < edges file → (edge_of file i).from ≡ v → (edge_of file k).from ≡ v → (edge_of file i).to < (edge_of file k).to
  to_rises i k h l e f = ⊎_elim (λ less. absurd (omega (arith, e, f))) (λ same. same.1) (file_rises i k h l)

  module _ (v : ℕ) where
    outer_order : (n : ℕ) → n ≤ edges file → InOrder Less (rows (outer_edge file v) n)
    unfolding rows
    outer_order zero h = order_none
    outer_order (suc n) h =
        order_append (outer_order n (omega arith))
        (at_cond (InOrder Less) (eqb (edge_of file n).from v) (λ _. order_more each_none order_none) (λ _. order_none))
        (each_rows (outer_edge file v) n (λ i l. at_cond (Each (λ d. Each (Less d) (outer_edge file v n))) (eqb (edge_of file i).from v)
        (λ e. each_more
        (at_cond (Each (Less (edge (last_of file v) (first_vertex_of file (edge_of file i).to)))) (eqb (edge_of file n).from v)
        (λ f. each_more (inr (
          refl,
          first_rises file (edge_of file n).to (edge_of file i).to
              (to_rises i n l (omega arith) (eqb-true (edge_of file i).from v e) (eqb-true (edge_of file n).from v f)),
        )) each_none)
        (λ _. each_none))
        each_none)
        (λ _. each_none)))

    outer_from : Each (λ d. d.from ≡ last_of file v) (rows (outer_edge file v) (edges file))
    outer_from = each_rows (outer_edge file v) (edges file) (λ i _.
        at_cond (Each (λ d. d.from ≡ last_of file v)) (eqb (edge_of file i).from v) (λ _. each_more refl each_none) (λ _. each_none))

    from_order : InOrder Less (edges_from file v)
    from_order =
        order_append
        (at_cond (InOrder Less) (is_call_row file v)
        (λ _. order_more (each_more (inl (omega arith)) each_none) (order_more each_none order_none))
        (λ _. order_none))
        (outer_order (edges file) (omega arith))
        (at_cond (Each (λ d. Each (Less d) (rows (outer_edge file v) (edges file)))) (is_call_row file v)
        (λ call. each_more (each_as (λ e f. inl (omega (arith, f, call_last file v call))) outer_from)
        (each_more (each_as (λ e f. inl (omega (arith, f, call_last file v call))) outer_from) each_none))
        (λ _. each_none))

    from_within : Each (λ d. (first_vertex_of file v ≤ d.from) × (d.from ≤ last_of file v)) (edges_from file v)
    from_within = each_append
        (at_cond (Each (λ d. (first_vertex_of file v ≤ d.from) × (d.from ≤ last_of file v))) (is_call_row file v)
        (λ call. each_more (omega (arith, call_last file v call)) (each_more (omega (arith, call_last file v call)) each_none))
        (λ _. each_none))
        (each_as (λ d f. omega (arith, f, first_last file v)) outer_from)

  pub expanded-rises : (i : ℕ) → suc i < length (expanded_edges file) → before (get_or (expanded_edges file) i no_edge) (get_or (expanded_edges file) (suc i) no_edge) ≡ true
  unfolding expanded_edges
  expanded-rises i h =
      less_before (get_or (expanded_edges file) i no_edge) (get_or (expanded_edges file) (suc i) no_edge)
      (order_next (order_rows (edges_from file) (vertices file) (λ v _. from_order v)
      (λ u v g _. each_as (λ d p. each_as (λ e q. inl (omega (arith, p.1, q.0, last_below file v u g))) (from_within v)) (from_within u)))
      no_edge i h)

  -- ---- how many there are: those of the file, and two for each call

  pub edges_count : length (expanded_edges file) ≡ 2 * count_of (is_call_row file) (vertices file) + edges file
  unfolding expanded_edges
  edges_count =
      let n = vertices file in
      let call : ℕ → ℕ = λ v. cond (is_call_row file v) 1 0 in
      let leaving : ℕ → ℕ → ℕ = λ v i. cond (eqb (edge_of file i).from v) 1 0 in
      let outer : ℕ → ℕ = λ v. total (leaving v) (edges file) in
      let whole : length (rows (edges_from file) n) ≡ 1 * total (λ v. (call v + call v) + outer v) n =
      rows-total (edges_from file) (λ v. (call v + call v) + outer v) 1 (λ v. omega (arith, length-append (inner_edges file v) (rows (outer_edge file v) (edges file)), inner_count v, outer_count v)) n in
      let each : total outer n ≡ 1 * edges file =
      total-turned leaving (edges file) n
      ∙ total_same (λ i. total (λ v. leaving v i) n) (λ i. 1) (edges file) (λ i h. count_once (edge_of file i).from n (w.edge_limits h).from_below)
      ∙ total_const 1 (edges file) in
      omega (arith, whole, total_add (λ v. call v + call v) outer n, total_add call call n, each)
    where
      inner_count : (v : ℕ) → length (inner_edges file v) ≡ cond (is_call_row file v) 1 0 + cond (is_call_row file v) 1 0
      inner_count v = at_cond (λ (es : List Ends). length es ≡ cond (is_call_row file v) 1 0 + cond (is_call_row file v) 1 0) (is_call_row file v) (λ e. rw e) (λ e. rw e)

      outer_count : (v : ℕ) → length (rows (outer_edge file v) (edges file)) ≡ 1 * total (λ i. cond (eqb (edge_of file i).from v) 1 0) (edges file)
      outer_count v = rows-total (outer_edge file v) (λ i. cond (eqb (edge_of file i).from v) 1 0) 1 (λ i.
          at_cond (λ (es : List Ends). length es ≡ 1 * cond (eqb (edge_of file i).from v) 1 0) (eqb (edge_of file i).from v) (λ e. rw e) (λ e. rw e)) (edges file)
