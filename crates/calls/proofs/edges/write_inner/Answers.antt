-- `edges::write_inner` meets its contract: a vertex that becomes one has no edge inside, a call has two.
use mathlib.Core.Path.{◌≡◌, refl, sym, ap, ◌∙◌}
use mathlib.Core.List.{List, [], ◌∷◌}
use Prim.Native.Nat.{ℕ, ◌+◌, ◌≤◌}
use native.Mathlib.Omega.{arith}
use lib.ListN.{length}
use Rattle.routine.specs.declared.edge.Edge.{Edge}
use Rattle.words.proofs.Buffers.{Front, starts, lends, more}
use Rattle.words.specs.Tables.{wrote}
use Rattle.calls.specs.Expanded.{edge, inner_edges, edges_bytes}
use Rattle.calls.proofs.Written.{none_inside, two_inside}
use Rattle.calls.proofs.edges.write_inner.Goals as goal
use Rattle.calls.proofs.edges.write_inner.Goals.{After-write_pair, Else-next-first}

-- ---- no call
pub returns-then-next-first : goal.returns-then-next-first
returns-then-next-first c =
    let e = none_inside c.args.routine.now.bytes c.args.v
    (sym c.first_of-next.ensures.value ∙ c.if-next-first.true ∙ ap (λ (x : ℕ). x + 1) c.first_of-first.ensures.value) in
    record {
      value = sym (ap length e);
      out_after = sym (ap (λ (es : List Edge). wrote c.args.out.now (edges_bytes es)) e);
    }

abbrev old : Else-next-first → List ℕ
old c = c.args.out.now

abbrev first : Else-next-first → ℕ
first c = c.first_of-first.result

inside : (c : Else-next-first) → inner_edges c.args.routine.now.bytes c.args.v ≡ edge (first c) (first c + 1) ∷ edge (first c + 1) (first c + 2) ∷ []
inside c =
    two_inside c.args.routine.now.bytes c.args.v (λ e. c.if-next-first.false (c.first_of-next.ensures.value ∙ e ∙ ap (λ (x : ℕ). x + 1) (sym c.first_of-first.ensures.value)))
    ∙ ap (λ (x : ℕ). edge x (x + 1) ∷ edge (x + 1) (x + 2) ∷ []) (sym c.first_of-first.ensures.value)

room : (c : Else-next-first) → 8 ≤ length (old c)
room c = omega (arith, c.requires.v_in_bounds, ap length (inside c))

pub write_pair-requires : goal.write_pair-requires
write_pair-requires c =
    record {
      in_bounds = omega (arith, room (goal.at.write_pair-requires c).Else-next-first);
      first_bound = omega (arith, c.first_of-first.ensures.upper_bound);
      second_bound = omega (arith, c.first_of-first.ensures.upper_bound);
    }

-- its first edge is written
head : (c : After-write_pair) → Front (old (goal.at.After-write_pair c).Else-next-first) (edges_bytes (edge (first (goal.at.After-write_pair c).Else-next-first) (first (goal.at.After-write_pair c).Else-next-first + 1) ∷ [])) c.write_pair.new.out
head c = record { is = c.write_pair.ensures }

pub slice_bounds-write_pair-count : goal.slice_bounds-write_pair-count
slice_bounds-write_pair-count c = starts (head (goal.at.slice_bounds-write_pair-count c).After-write_pair) {at = 4} refl (omega (arith, room (goal.at.slice_bounds-write_pair-count c).Else-next-first))

pub slice_bounds-write_pair-start : goal.slice_bounds-write_pair-start
slice_bounds-write_pair-start c = slice_bounds-write_pair-count c

pub write_pair-requires-2 : goal.write_pair-requires-2
write_pair-requires-2 c =
    record {
      in_bounds = lends (head (goal.at.write_pair-requires-2 c).After-write_pair) {at = 4} refl (room (goal.at.write_pair-requires-2 c).Else-next-first);
      first_bound = omega (arith, c.first_of-first.ensures.upper_bound);
      second_bound = omega (arith, c.first_of-first.ensures.upper_bound);
    }

pub returns : goal.returns
returns c =
    record {
      value = sym (ap length (inside (goal.at.returns c).Else-next-first));
      out_after = (more (head (goal.at.returns c).After-write_pair) {at = 4} refl (edges_bytes (edge (first (goal.at.returns c).Else-next-first + 1) (first (goal.at.returns c).Else-next-first + 2) ∷ [])) c.write_pair-2.ensures).is
          ∙ sym (ap (λ (es : List Edge). wrote (old (goal.at.returns c).Else-next-first) (edges_bytes es)) (inside (goal.at.returns c).Else-next-first));
    }
