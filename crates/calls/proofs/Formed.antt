-- The expanded routine is well formed.
-- Assumes nothing.
use mathlib.Core.Path.{◌≡◌, refl, sym, ap, ap₂, subst, ◌∙◌}
use mathlib.Core.Bool.{true, cond}
use mathlib.Core.List.{List}
use Prim.Native.Nat.{ℕ, suc, ◌+◌, ◌-◌, ◌*◌, ◌≤◌, ◌<◌}
use native.Mathlib.Decide.{dec_lt}
use native.Mathlib.Numerals.{add-one}
use native.Mathlib.Omega.{arith}
use lib.ListN.{length}
use Rattle.labels.proofs.Rules.Proper.{edge_count_lem, edge_from_lem, edge_to_is}
use Rattle.routine.specs.Actions.{called_version, action_byte, action}
use Rattle.routine.specs.Edges.{edge_of, before}
use Rattle.routine.specs.Layout.{arrays, vertices, edges, exit}
use Rattle.routine.specs.Reader.{Laid, EdgeLimits, WellFormed}
use Rattle.routine.specs.declared.action.Access.{Access}
use Rattle.routine.specs.declared.action.Action.TheVariants.{Reference, Remap}
use Rattle.words.proofs.Sums.{count_later}
use Rattle.words.specs.Sums.{total, count_of}
use Rattle.calls.specs.Calls.{passes, is_call_row}
use Rattle.calls.specs.Expands.{Joins, enters, leaves, between}
use Rattle.calls.specs.Expanded.{edge, expanded_edges, expanded}
use Rattle.calls.specs.Interfaces.{Expandable}
use Rattle.calls.specs.Parts.{Part, plain, passing, calling, returning, beyond, expanded_vertices, part_at, first_vertex_of}
use Rattle.calls.specs.Referring.{return_version}
use Rattle.calls.proofs.Actions.{no_reference, no_remap}
use Rattle.calls.proofs.Bytes.{arrays_are, vertices_are, edges_are, array_is, edge_is, ends_there}
use Rattle.calls.proofs.Joins.{edges_exact, expanded-rises, edges_count}
use Rattle.calls.proofs.Events.{exit_is, first_below, call_inner, plain_does, passing_does, calling_does, returning_does}
use Rattle.calls.proofs.Parts.{first_zero, size_is, size-count, last_below, first_rises, standing, plain_at}
use Rattle.calls.proofs.Referring.{entry_no_call, exit_no_call}

module _ (file : List ℕ) (can : Expandable file) where
  w : WellFormed file
  w = can.well

  two : 2 ≤ vertices file
  two = w.laid.limits.two_vertices

  -- ---- how many edges: at most 84 vertices are calls, since the entry and the exit are none

  few_calls : 3 * count_of (is_call_row file) (vertices file) ≤ 254
  unfolding total
  few_calls =
      let n = vertices file - 2 in
      let all : vertices file ≡ suc (suc n) = omega (arith, two) in
      let last : suc n ≡ exit file = omega (arith, two) in
      let none : ◌≡◌ {A = ℕ} (cond (is_call_row file (suc n)) 1 0) 0 = rw (last, exit_no_call file w) in
      let counted : count_of (is_call_row file) (vertices file) ≡ count_of (is_call_row file) (suc n) + cond (is_call_row file (suc n)) 1 0 = ap (count_of (is_call_row file)) all in
      omega (arith, counted, none, count_later (is_call_row file) (entry_no_call file w) n, size_is file, size-count file (vertices file), can.few_vertices, two)

  -- ---- the edges

  -- one step among the three vertices of a call
  inner_limits : {v x : ℕ} → v < vertices file → is_call_row file v ≡ true → first_vertex_of file v ≤ x → x < first_vertex_of file v + 2 → EdgeLimits (edge x (x + 1)) (vertices (expanded file))
  inner_limits in_v call f g =
      let inner = call_inner file w in_v call in
      record { from_below = omega arith; to_below = omega arith; to_other = λ q. omega arith; from_other = λ q. omega arith }

  joins_limits : {x y : ℕ} → Joins file x y → EdgeLimits (edge x y) (vertices (expanded file))
  joins_limits (enters {v} in_v call) = inner_limits in_v call (omega arith) (omega arith)
  joins_limits (leaves {v} in_v call) =
      let e : first_vertex_of file v + 1 + 1 ≡ first_vertex_of file v + 2 = omega arith in
      subst (λ (y : ℕ). EdgeLimits (edge (first_vertex_of file v + 1) y) (vertices (expanded file))) e (inner_limits in_v call (omega arith) (omega arith))
  joins_limits (between {v} {u} e) =
      let listed : e.place < edges file = omega (arith, e.listed, edge_count_lem file w.laid) in
      let limits = w.edge_limits listed in
      let from-v = sym (edge_from_lem file e.place) ∙ e.leaves in
      let to-u = sym (edge_to_is file e.place) ∙ e.enters in
      let early : v < exit file = elim (dec_lt v (exit file)) [ yes l ↦ l | no f ↦ absurd (limits.from_other (omega (arith, from-v, limits.from_below))) ] in
      let late : 0 < u = elim (dec_lt 0 u) [ yes l ↦ l | no f ↦ absurd (limits.to_other (omega (arith, to-u))) ] in
      let ends = last_below file (exit file) v early in
      record {
        from_below = omega (arith, exit_is file w, ends);
        to_below = omega (arith, vertices_are file w.laid, first_below file w (let in_u : u < vertices file = omega (arith, to-u, limits.to_below) in in_u));
        to_other = λ q. omega (arith, first_rises file u 0 late);
        from_other = λ q. omega (arith, exit_is file w, ends);
      }

  -- ---- the rows

  sorts : {x a b : ℕ} {r : Access} {k : ℕ} → x < expanded_vertices file → a < arrays file → b < arrays file
      → action (expanded file) a x ≡ Reference r → action (expanded file) b x ≡ Remap k → ⊥
  sorts {x} {a} {b} {r} {k} in-x in_a in_b reference remap = go (part_at file x) refl
    where
      go : (p : Part) → part_at file x ≡ p → ⊥
      go (plain v) p = w.never_both (standing file x p).0 in_a in_b (sym (plain_does file w in_a in-x p) ∙ reference) (sym (plain_does file w in_b in-x p) ∙ remap)
      go (passing v) p =
          no_reference (passes file a v) (called_version (action_byte file a v)) r (sym (passing_does file w in_a in-x can.interfaces (standing file x p).0 p) ∙ reference)
      go (calling v) p = no_remap (passes file b v) (action_byte file b v) k (sym (calling_does file w in_b in-x p) ∙ remap)
      go (returning v) p =
          no_reference (passes file a v) (return_version file a v) r (sym (returning_does file w in_a in-x can.interfaces (standing file x p).0 p) ∙ reference)
      go beyond p = omega (arith, standing file x p, size_is file)

  -- ---- the whole

  laid : Laid (expanded file)
  laid = record {
    limits = record {
      some_array = omega (arith, arrays_are file w.laid, w.laid.limits);
      few_arrays = omega (arith, arrays_are file w.laid, w.laid.limits);
      two_vertices = omega (arith, vertices_are file w.laid, size_is file, size-count file (vertices file), two);
      few_vertices = omega (arith, vertices_are file w.laid, can.few_vertices);
      few_edges = omega (arith, edges_are file w.laid, edges_count file w, few_calls, can.few_edges);
    };
    ends = ends_there file w.laid;
  }

  below : {a : ℕ} → a < arrays (expanded file) → a < arrays file
  below h = omega (arith, arrays_are file w.laid)

  pub expanded_formed : WellFormed (expanded file)
  expanded_formed = record {
    laid = laid;
    array_limits = λ {a} h. rw (array_is file w.laid a (below h)) (w.array_limits (below h));
    entry_nothing = λ {a} h.
        ap (action (expanded file) a) (sym (first_zero file))
        ∙ plain_does file w (below h) (first_below file w (omega (arith, two))) (plain_at file (omega (arith, two)) (entry_no_call file w)) ∙ w.entry_nothing (below h);
    exit_nothing = λ {a} h.
        ap (action (expanded file) a) (exit_is file w)
        ∙ plain_does file w (below h) (first_below file w (omega (arith, two))) (plain_at file (omega (arith, two)) (exit_no_call file w)) ∙ w.exit_nothing (below h);
    never_both = λ in_v in_a in_b. sorts (omega (arith, vertices_are file w.laid)) (below in_a) (below in_b);
    edge_limits = λ {i} h. joins_limits ((edges_exact file w (edge_of (expanded file) i).from (edge_of (expanded file) i).to).0 (record {
      place = i;
      listed = omega (arith, edge_count_lem (expanded file) laid);
      leaves = edge_from_lem (expanded file) i;
      enters = edge_to_is (expanded file) i;
    }));
    edges_rise = λ i h.
        let l : suc i < length (expanded_edges file) = omega (arith, edges_are file w.laid) in
        ap₂ before (edge_is file w.laid i (omega arith)) (ap (edge_of (expanded file)) (add-one i) ∙ edge_is file w.laid (suc i) l) ∙ expanded-rises file w i l;
  }
