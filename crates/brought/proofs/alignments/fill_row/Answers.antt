-- `alignments::fill_row` meets its contract: two rows are replaced.
use mathlib.Core.Path.{◌≡◌, refl, sym, ap, ap₂, subst, ◌∙◌}
use mathlib.Core.Bool.{Bool, not, ◌&&◌, ◌||◌, cond}
use mathlib.Core.List.{List}
use Prim.Native.Nat.{ℕ, ◌^◌, ◌<◌}
use native.Mathlib.Omega.{arith}
use lib.Dec.{eqb}
use Rattle.words.proofs.Replaced.{replacing_begin, replacing_next, replacing_end}
use Rattle.words.proofs.Tests.{cond-not}
use Rattle.labels.specs.Reaching.{is_reached_over}
use Rattle.directives.specs.Directives.{directive}
use Rattle.directives.specs.Layout.{arrays, vertices, edge_bytes}
use Rattle.directives.specs.declared.vertex.Directive.{Directive}
use Rattle.directives.proofs.Limits.{read_limits}
use Rattle.mappings.specs.Along.{initial_state}
use Rattle.mappings.specs.Computed.{realigns, alignment_of, code}
use Rattle.mappings.specs.Theorem.{Right}
use Rattle.mappings.proofs.Facts.{right_of}
use Rattle.mappings.proofs.Formed.{formed}
use Rattle.brought.specs.Cells.{is_aligner, align_gives, align_passes}
use Rattle.brought.proofs.alignments.fill_row.Goals as goal
use Rattle.brought.proofs.alignments.fill_row.Goals.{After-realigns, In-loop-a}

-- ---- the cells of vertex v and array a, by what the code finds there

module _ (file : List ℕ) (a v : ℕ) {aligns : Bool} (is : aligns ≡ is_aligner file a v) where
  gives_if : {reached : Bool} {d : Directive} {x : ℕ} → reached ≡ is_reached_over (edge_bytes file) (vertices file) v → d ≡ directive file v
      → x ≡ cond (reached && aligns) (2 ^ code (alignment_of ((initial_state file).aligned a) d)) 0 → x ≡ align_gives file a v
  unfolding align_gives
  gives_if r at e =
      e ∙ ap₂ (λ (b : Bool) (d : Directive). cond b (2 ^ code (alignment_of ((initial_state file).aligned a) d)) 0) (ap₂ ◌&&◌ r is) at

  passes_if : {x : ℕ} → x ≡ cond (not aligns) 65535 0 → x ≡ align_passes file a v
  unfolding align_passes
  passes_if e = e ∙ sym (cond-not aligns 0 65535) ∙ ap (λ (b : Bool). cond b 0 65535) is

-- what holds in a turn
module _ (c : In-loop-a) where
  in_a : c.loop-a.a < arrays c.args.directives.now.bytes
  in_a = omega (arith, c.arrays-a-end.ensures)

  small_a : c.loop-a.a < 8
  small_a = omega (arith, in_a, (read_limits c.args.directives.now).few_arrays)

  small_v : c.args.v < 256
  small_v = omega (arith, c.requires.v_bound, (read_limits c.args.directives.now).few_vertices)

-- whether the vertex gives the array an alignment
aligner : (c : After-realigns)
    → (eqb c.args.v 0 || c.realigns.result) ≡ is_aligner c.args.directives.now.bytes c.loop-a.a c.args.v
aligner c =
    let a = c.args in
    ap (λ (b : Bool). eqb a.v 0 || b) (c.realigns.ensures ∙ ap (realigns c.loop-a.a) c.directive-d.ensures)

pub directive-d-requires : goal.directive-d-requires
directive-d-requires c = c.requires.v_bound

pub is_reached-is_reached-requires : goal.is_reached-is_reached-requires
is_reached-is_reached-requires c =
    record {
      reached = c.requires.reached;
      v_bound = c.requires.v_bound;
      v_bound_2 = omega (arith, c.requires.v_bound, (read_limits c.args.directives.now).few_vertices);
    }

pub loop-a-init : goal.loop-a-init
loop-a-init c = (replacing_begin _ _ _ _, replacing_begin _ _ _ _)

pub overflow_mul-at : goal.overflow_mul-at
overflow_mul-at c = omega (arith, small_v c)

pub overflow_add-at : goal.overflow_add-at
overflow_add-at c = omega (arith, small_a c, small_v c)

pub given-requires : goal.given-requires
given-requires c =
    let file = c.args.directives.now.bytes in
    let a = c.loop-a.a in
    let right = right_of (formed file c.args.directives.now.passed) a (in_a (goal.at.given-requires c).In-loop-a) c.args.v c.requires.v_bound in
    record {
      a_bound = in_a (goal.at.given-requires c).In-loop-a;
      right = subst (λ (d : Directive). Right file (alignment_of ((initial_state file).aligned a) d)) (sym c.directive-d.ensures) right;
    }

pub offset_bounds-gives-at : goal.offset_bounds-gives-at
offset_bounds-gives-at c = omega (arith, small_a (goal.at.offset_bounds-gives-at c).In-loop-a, small_v (goal.at.offset_bounds-gives-at c).In-loop-a)

pub bounds-gives-at : goal.bounds-gives-at
bounds-gives-at c = omega (arith, small_a (goal.at.bounds-gives-at c).In-loop-a, c.requires.v_bound, c.requires.gives_len, c.loop-a.invariant.0.sized)

pub offset_bounds-passes-at : goal.offset_bounds-passes-at
offset_bounds-passes-at c = omega (arith, small_a (goal.at.offset_bounds-passes-at c).In-loop-a, small_v (goal.at.offset_bounds-passes-at c).In-loop-a)

pub bounds-passes-at : goal.bounds-passes-at
bounds-passes-at c = omega (arith, small_a (goal.at.bounds-passes-at c).In-loop-a, c.requires.v_bound, c.requires.passes_len, c.loop-a.invariant.1.sized)

pub loop-a-preserved : goal.loop-a-preserved
loop-a-preserved c =
    let file = c.args.directives.now.bytes in
    let v = c.args.v in (
      replacing_next c.loop-a.invariant.0 (in_a (goal.at.loop-a-preserved c).In-loop-a) refl (gives_if file c.loop-a.a v (aligner (goal.at.loop-a-preserved c).After-realigns) c.is_reached-is_reached.ensures c.directive-d.ensures c.given.ensures),
      replacing_next c.loop-a.invariant.1 (in_a (goal.at.loop-a-preserved c).In-loop-a) refl (passes_if file c.loop-a.a v (aligner (goal.at.loop-a-preserved c).After-realigns) c.only_if.ensures),
    )

pub shape_of-gives : goal.shape_of-gives
shape_of-gives c = c.loop-a.invariant.0.sized

pub shape_of-passes : goal.shape_of-passes
shape_of-passes c = c.loop-a.invariant.1.sized

pub returns : goal.returns
returns c =
    let over = c.arrays-a-end.ensures in
    record {
      gives_after = replacing_end c.loop-a.invariant.0 (omega (arith, over));
      passes_after = replacing_end c.loop-a.invariant.1 (omega (arith, over));
    }
