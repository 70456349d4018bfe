-- `held::fill_row` meets its contract: two rows are replaced.
use mathlib.Core.Path.{refl, sym, ap, ap₂, ◌∙◌}
use mathlib.Core.Bool.{Bool, ◌||◌, cond}
use Prim.Native.Nat.{◌+◌, ◌*◌, ◌<◌}
use native.Mathlib.Omega.{arith}
use Rattle.words.proofs.Replaced.{replacing_begin, replacing_next, replacing_end}
use Rattle.words.proofs.Tests.{cond-not}
use Rattle.sets.specs.Sets.{every_half}
use Rattle.directives.specs.Layout.{arrays}
use Rattle.mappings.specs.Computed.{realigns, redistributes}
use Rattle.left.specs.Cells.{held_halves}
use Rattle.left.proofs.Cells.{few_cells, in_table}
use Rattle.left.proofs.held.fill_row.Goals as goal
use Rattle.left.proofs.held.fill_row.Goals.{In-loop-a}

-- what holds in a turn
module _ (c : In-loop-a) where
  in_a : c.loop-a.a < arrays c.args.directives.now.bytes
  in_a = omega (arith, c.arrays-a-end.ensures)

  few : 8 * c.args.v + c.loop-a.a < 2048
  few = few_cells c.args.directives.now in_a c.requires.v_bound

pub directive-d-requires : goal.directive-d-requires
directive-d-requires c = c.requires.v_bound

pub loop-a-init : goal.loop-a-init
loop-a-init c = (replacing_begin _ _ _ _, replacing_begin _ _ _ _)

pub overflow_mul-at : goal.overflow_mul-at
overflow_mul-at c = omega (arith, few c)

pub overflow_add-at : goal.overflow_add-at
overflow_add-at c = omega (arith, few c)

pub offset_bounds-given-at : goal.offset_bounds-given-at
offset_bounds-given-at c = omega (arith, few c)

pub bounds-given-at : goal.bounds-given-at
bounds-given-at c = in_table c.args.directives.now (in_a (goal.at.bounds-given-at c).In-loop-a) c.requires.v_bound c.args.given.now c.requires.given.size

pub gives_at-requires : goal.gives_at-requires
gives_at-requires c =
    record {
      a_bound = in_a (goal.at.gives_at-requires c).In-loop-a;
      d_value = c.directive-d.ensures;
      v_bound = c.requires.v_bound;
    }

pub offset_bounds-gives-at : goal.offset_bounds-gives-at
offset_bounds-gives-at c = omega (arith, few (goal.at.offset_bounds-gives-at c).In-loop-a)

pub bounds-gives-at : goal.bounds-gives-at
bounds-gives-at c = in_table c.args.directives.now (in_a (goal.at.bounds-gives-at c).In-loop-a) c.requires.v_bound c.loop-a.gives (c.loop-a.invariant.0.sized ∙ c.requires.gives_len)

pub offset_bounds-passes-at : goal.offset_bounds-passes-at
offset_bounds-passes-at c = omega (arith, few (goal.at.offset_bounds-passes-at c).In-loop-a)

pub bounds-passes-at : goal.bounds-passes-at
bounds-passes-at c = in_table c.args.directives.now (in_a (goal.at.bounds-passes-at c).In-loop-a) c.requires.v_bound c.loop-a.passes (c.loop-a.invariant.1.sized ∙ c.requires.passes_len)

pub loop-a-preserved : goal.loop-a-preserved
unfolding held_halves
loop-a-preserved c =
    let a = c.loop-a.a in
    let changed = c.realigns.result || c.redistributes-spread.result in
    let changes = ap₂ ◌||◌ (c.realigns.ensures ∙ ap (realigns a) c.directive-d.ensures) (c.redistributes-spread.ensures ∙ ap (redistributes c.args.t) c.directive-d.ensures) in
    let passed = sym (cond-not changed 0 every_half) ∙ ap (λ (b : Bool). cond b 0 every_half) changes in (
      replacing_next c.loop-a.invariant.0 (in_a (goal.at.loop-a-preserved c).In-loop-a) refl c.gives_at.ensures,
      replacing_next c.loop-a.invariant.1 (in_a (goal.at.loop-a-preserved c).In-loop-a) refl (c.every_if.ensures ∙ passed),
    )

pub shape_of-gives : goal.shape_of-gives
shape_of-gives c = c.loop-a.invariant.0.sized

pub shape_of-passes : goal.shape_of-passes
shape_of-passes c = c.loop-a.invariant.1.sized

pub returns : goal.returns
returns c =
    let over = c.arrays-a-end.ensures in
    record {
      gives_after = replacing_end c.loop-a.invariant.0 (omega (arith, over));
      passes_after = replacing_end c.loop-a.invariant.1 (omega (arith, over));
    }
