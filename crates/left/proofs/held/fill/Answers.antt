-- `held::fill` meets its contract: row after row both tables are filled.
use mathlib.Core.Path.{sym, ◌∙◌}
use Prim.Native.Nat.{◌≤◌, ◌<◌}
use native.Mathlib.Omega.{arith}
use Rattle.flow.proofs.Cells.{rows_none, rows_next, rows_all}
use Rattle.directives.specs.Layout.{vertices}
use Rattle.facts.proofs.Rounds.{none_next}
use Rattle.left.specs.Cells.{held_halves}
use Rattle.left.proofs.Cells.{few_columns}
use Rattle.left.proofs.held.fill.Goals as goal
use Rattle.left.proofs.held.fill.Invariants.{gives_at}
use Rattle.left.proofs.held.fill.Goals.{In-loop-v}

-- what holds in a turn
module _ (c : In-loop-v) where
  in_v : c.loop-v.v < vertices c.args.directives.now.bytes
  in_v = omega (arith, c.vertices-v-end.ensures)

pub loop-v-init : goal.loop-v-init
loop-v-init c = (rows_none (few_columns c.args.directives.now) _ _ c.requires.gives_len, rows_none (few_columns c.args.directives.now) _ _ c.requires.passes_len, c.requires.none_beyond, c.requires.none_beyond_2)

pub fill_row-requires : goal.fill_row-requires
fill_row-requires c =
    record {
      v_bound = in_v (goal.at.fill_row-requires c).In-loop-v;
      given = c.requires.given;
      gives_len = c.loop-v.invariant.0.size;
      passes_len = c.loop-v.invariant.1.size;
    }

pub loop-v-preserved : goal.loop-v-preserved
loop-v-preserved c =
    let g = c.args in
    let few = few_columns c.args.directives.now in (
      rows_next few (gives_at g.directives.now.bytes g.t g.given.now) g.gives.now c.loop-v.v (in_v (goal.at.loop-v-preserved c).In-loop-v) c.loop-v.invariant.0 c.fill_row.ensures.gives_after,
      rows_next few (held_halves g.directives.now.bytes g.t) g.passes.now c.loop-v.v (in_v (goal.at.loop-v-preserved c).In-loop-v) c.loop-v.invariant.1 c.fill_row.ensures.passes_after,
      none_next few (λ a. gives_at g.directives.now.bytes g.t g.given.now a c.loop-v.v) c.loop-v.v c.loop-v.invariant.2 c.fill_row.ensures.gives_after,
      none_next few (λ a. held_halves g.directives.now.bytes g.t a c.loop-v.v) c.loop-v.v c.loop-v.invariant.3 c.fill_row.ensures.passes_after,
    )

pub shape_of-gives : goal.shape_of-gives
shape_of-gives c = c.loop-v.invariant.0.size ∙ sym c.requires.gives_len

pub shape_of-passes : goal.shape_of-passes
shape_of-passes c = c.loop-v.invariant.1.size ∙ sym c.requires.passes_len

pub returns : goal.returns
returns c =
    let g = c.args in
    let few = few_columns c.args.directives.now in
    let all : vertices g.directives.now.bytes ≤ c.loop-v.v = omega (arith, c.vertices-v-end.ensures) in
    record {
      array_cells = rows_all few (gives_at g.directives.now.bytes g.t g.given.now) g.gives.now c.loop-v.v all c.loop-v.invariant.0;
      array_cells_2 = rows_all few (held_halves g.directives.now.bytes g.t) g.passes.now c.loop-v.v all c.loop-v.invariant.1;
      none_beyond_3 = c.loop-v.invariant.2;
      none_beyond_4 = c.loop-v.invariant.3;
    }
