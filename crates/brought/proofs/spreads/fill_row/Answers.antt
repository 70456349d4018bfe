-- `spreads::fill_row` meets its contract: two rows are replaced.
use mathlib.Core.Path.{refl, ap, ◌∙◌}
use Prim.Native.Nat.{◌<◌}
use native.Mathlib.Omega.{arith}
use Rattle.words.proofs.Replaced.{replacing_begin, replacing_next, replacing_end}
use Rattle.directives.proofs.Limits.{read_limits}
use Rattle.mappings.specs.Computed.{redistributes}
use Rattle.brought.proofs.SpreadRows.{spread_gives_lem, spread_passes_lem}
use Rattle.brought.proofs.spreads.fill_row.Goals as goal
use Rattle.brought.proofs.spreads.fill_row.Goals.{In-loop-c}

-- what holds in a turn
module _ (c : In-loop-c) where
  small : c.args.v < 256
  small = omega (arith, c.requires.v_bound, (read_limits c.args.directives.now).few_vertices)

pub directive-requires : goal.directive-requires
directive-requires c = c.requires.v_bound

pub is_reached-requires : goal.is_reached-requires
is_reached-requires c =
    record {
      reached = c.requires.reached;
      v_bound = c.requires.v_bound;
      v_bound_2 = omega (arith, c.requires.v_bound, (read_limits c.args.directives.now).few_vertices);
    }

pub loop-c-init : goal.loop-c-init
loop-c-init c = (replacing_begin _ _ _ _, replacing_begin _ _ _ _)

pub overflow_mul-at : goal.overflow_mul-at
overflow_mul-at c = omega (arith, small c)

pub overflow_add-at : goal.overflow_add-at
overflow_add-at c = omega (arith, small c)

pub offset_bounds-gives-at : goal.offset_bounds-gives-at
offset_bounds-gives-at c = omega (arith, small (goal.at.offset_bounds-gives-at c).In-loop-c)

pub bounds-gives-at : goal.bounds-gives-at
bounds-gives-at c = omega (arith, c.requires.v_bound, c.requires.gives_len, c.loop-c.invariant.0.sized)

pub offset_bounds-passes-at : goal.offset_bounds-passes-at
offset_bounds-passes-at c = omega (arith, small (goal.at.offset_bounds-passes-at c).In-loop-c)

pub bounds-passes-at : goal.bounds-passes-at
bounds-passes-at c = omega (arith, c.requires.v_bound, c.requires.passes_len, c.loop-c.invariant.1.sized)

pub loop-c-preserved : goal.loop-c-preserved
loop-c-preserved c =
    let a = c.args in
    let is = c.redistributes.ensures ∙ ap (redistributes a.t) c.directive.ensures in (
      replacing_next c.loop-c.invariant.0 c.loop-c-test.true refl
          (spread_gives_lem a.directives.now.bytes a.t a.v is c.loop-c.c c.is_reached.ensures c.single-set.ensures c.only_if.ensures),
      replacing_next c.loop-c.invariant.1 c.loop-c-test.true refl (spread_passes_lem a.directives.now.bytes a.t a.v is c.every_if.ensures),
    )

pub shape_of-gives : goal.shape_of-gives
shape_of-gives c = c.loop-c.invariant.0.sized

pub shape_of-passes : goal.shape_of-passes
shape_of-passes c = c.loop-c.invariant.1.sized

pub returns : goal.returns
returns c =
    record {
      gives_after = replacing_end c.loop-c.invariant.0 c.loop-c-test.false;
      passes_after = replacing_end c.loop-c.invariant.1 c.loop-c-test.false;
    }
