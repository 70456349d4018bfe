-- `spreads::fill` meets its contract: row after row both tables are filled.
use mathlib.Core.Path.{sym, ◌∙◌}
use Prim.Native.Nat.{◌≤◌, ◌<◌}
use native.Mathlib.Nat.{le_refl}
use native.Mathlib.Omega.{arith}
use Rattle.flow.proofs.Cells.{rows_none, rows_next, rows_all}
use Rattle.directives.specs.Layout.{vertices}
use Rattle.brought.proofs.spreads.fill.Goals as goal
use Rattle.brought.proofs.spreads.fill.Invariants.{gives_at, passes_at}
use Rattle.brought.proofs.spreads.fill.Goals.{In-loop-v}

-- what holds in a turn
module _ (c : In-loop-v) where
  in_v : c.loop-v.v < vertices c.args.directives.now.bytes
  in_v = omega (arith, c.vertices-v-end.ensures)

pub loop-v-init : goal.loop-v-init
loop-v-init c = (omega arith, rows_none (le_refl 8) _ _ c.requires.gives_len, rows_none (le_refl 8) _ _ c.requires.passes_len)

pub fill_row-requires : goal.fill_row-requires
fill_row-requires c =
    record {
      v_bound = in_v (goal.at.fill_row-requires c).In-loop-v;
      reached = c.requires.reached;
      gives_len = c.loop-v.invariant.1.size;
      passes_len = c.loop-v.invariant.2.size;
    }

pub loop-v-preserved : goal.loop-v-preserved
loop-v-preserved c =
    let file = c.args.directives.now.bytes in (
      omega arith,
      rows_next (le_refl 8) (gives_at file c.args.t) c.args.gives.now c.loop-v.v (in_v (goal.at.loop-v-preserved c).In-loop-v) c.loop-v.invariant.1 c.fill_row.ensures.gives_after,
      rows_next (le_refl 8) (passes_at file c.args.t) c.args.passes.now c.loop-v.v (in_v (goal.at.loop-v-preserved c).In-loop-v) c.loop-v.invariant.2 c.fill_row.ensures.passes_after,
    )

pub shape_of-gives : goal.shape_of-gives
shape_of-gives c = c.loop-v.invariant.1.size ∙ sym c.requires.gives_len

pub shape_of-passes : goal.shape_of-passes
shape_of-passes c = c.loop-v.invariant.2.size ∙ sym c.requires.passes_len

pub returns : goal.returns
returns c =
    let file = c.args.directives.now.bytes in
    let all : vertices file ≤ c.loop-v.v = omega (arith, c.vertices-v-end.ensures) in
    record {
      cells = rows_all (le_refl 8) (gives_at file c.args.t) c.args.gives.now c.loop-v.v all c.loop-v.invariant.1;
      cells_2 = rows_all (le_refl 8) (passes_at file c.args.t) c.args.passes.now c.loop-v.v all c.loop-v.invariant.2;
    }
