-- `alignments::fill` meets its contract: row after row both tables are filled.
use mathlib.Core.Path.{sym, ◌∙◌}
use Prim.Native.Nat.{◌≤◌, ◌<◌}
use native.Mathlib.Omega.{arith}
use Rattle.flow.proofs.Cells.{rows_none, rows_next, rows_all}
use Rattle.directives.specs.Layout.{vertices}
use Rattle.directives.proofs.Limits.{read_limits}
use Rattle.facts.proofs.Rounds.{none_next}
use Rattle.brought.specs.Cells.{align_gives, align_passes}
use Rattle.brought.proofs.alignments.fill.Goals as goal
use Rattle.brought.proofs.alignments.fill.Goals.{In-loop-v}

-- what holds in a turn
module _ (c : In-loop-v) where
  in_v : c.loop-v.v < vertices c.args.directives.now.bytes
  in_v = omega (arith, c.vertices-v-end.ensures)

pub loop-v-init : goal.loop-v-init
loop-v-init c =
    let few = (read_limits c.args.directives.now).few_arrays in
    (omega arith, rows_none few _ _ c.requires.gives_len, rows_none few _ _ c.requires.passes_len, c.requires.none_beyond)

pub fill_row-requires : goal.fill_row-requires
fill_row-requires c =
    record {
      v_bound = in_v (goal.at.fill_row-requires c).In-loop-v;
      reached = c.requires.reached;
      gives_len = c.loop-v.invariant.1.size;
      passes_len = c.loop-v.invariant.2.size;
    }

pub loop-v-preserved : goal.loop-v-preserved
loop-v-preserved c =
    let a = c.args in
    let few = (read_limits c.args.directives.now).few_arrays in (
      omega arith,
      rows_next few (align_gives a.directives.now.bytes) a.gives.now c.loop-v.v (in_v (goal.at.loop-v-preserved c).In-loop-v) c.loop-v.invariant.1 c.fill_row.ensures.gives_after,
      rows_next few (align_passes a.directives.now.bytes) a.passes.now c.loop-v.v (in_v (goal.at.loop-v-preserved c).In-loop-v) c.loop-v.invariant.2 c.fill_row.ensures.passes_after,
      none_next few (λ b. align_gives a.directives.now.bytes b c.loop-v.v) c.loop-v.v c.loop-v.invariant.3 c.fill_row.ensures.gives_after,
    )

pub shape_of-gives : goal.shape_of-gives
shape_of-gives c = c.loop-v.invariant.1.size ∙ sym c.requires.gives_len

pub shape_of-passes : goal.shape_of-passes
shape_of-passes c = c.loop-v.invariant.2.size ∙ sym c.requires.passes_len

pub returns : goal.returns
returns c =
    let a = c.args in
    let all : vertices a.directives.now.bytes ≤ c.loop-v.v = omega (arith, c.vertices-v-end.ensures) in
    record {
      cells = rows_all (read_limits c.args.directives.now).few_arrays (align_gives a.directives.now.bytes) a.gives.now c.loop-v.v all c.loop-v.invariant.1;
      cells_2 = rows_all (read_limits c.args.directives.now).few_arrays (align_passes a.directives.now.bytes) a.passes.now c.loop-v.v all c.loop-v.invariant.2;
      none_beyond_2 = c.loop-v.invariant.3;
    }
