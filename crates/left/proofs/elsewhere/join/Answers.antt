-- `elsewhere::join` meets its contract: row after row is joined, or is as it was.
use mathlib.Core.Path.{◌≡◌, sym, ap, subst, ◌∙◌}
use Prim.Native.Nat.{◌+◌, ◌≤◌, ◌<◌}
use native.Mathlib.Omega.{arith}
use Rattle.flow.proofs.Cells.{rows_to, rows_none, rows_all}
use Rattle.directives.proofs.Limits.{read_limits}
use Rattle.directives.specs.Directives.{directive}
use Rattle.directives.specs.Layout.{vertices}
use Rattle.mappings.specs.Tables.{ArrayCells}
use Rattle.left.specs.Cells.{redistributes_other, others_to}
use Rattle.left.proofs.Cells.{few_columns, row_joined, row_left}
use Rattle.left.proofs.elsewhere.join.Goals as goal
use Rattle.left.proofs.elsewhere.join.Goals.{After-redistributes_other, In-loop-v, then-redistributes_other, else-redistributes_other}

-- what holds in a turn
module _ (c : In-loop-v) where
  in_v : c.loop-v.v < vertices c.args.directives.now.bytes
  in_v = omega (arith, c.vertices-v-end.ensures)

  few : vertices c.args.directives.now.bytes ≤ 256
  few = (read_limits c.args.directives.now).few_vertices

-- what the test says
test_is : (c : After-redistributes_other) →
    c.redistributes_other.result ≡ redistributes_other c.args.t (directive c.args.directives.now.bytes c.loop-v.v)
test_is c = c.redistributes_other.ensures ∙ ap (redistributes_other c.args.t) c.directive.ensures

pub loop-v-init : goal.loop-v-init
loop-v-init c = rows_none (few_columns c.args.directives.now) _ _ c.requires.array_cells_2.size

pub directive-requires : goal.directive-requires
directive-requires c = in_v c

pub join_row-requires : goal.join_row-requires
join_row-requires c =
    record {
      v_bound = omega (arith, in_v (goal.at.join_row-requires c).In-loop-v, few (goal.at.join_row-requires c).In-loop-v);
      v_in_bounds = omega (arith, in_v (goal.at.join_row-requires c).In-loop-v, c.requires.array_cells.size);
      v_in_bounds_2 = omega (arith, in_v (goal.at.join_row-requires c).In-loop-v, c.loop-v.invariant.size);
    }

pub loop-v-preserved : goal.loop-v-preserved
loop-v-preserved c =
    let g = c.args in
    let file = g.directives.now.bytes in
    let is = sym (test_is (goal.at.loop-v-preserved c).After-redistributes_other) in
    elim c.if-redistributes_other.branch [
      | then-redistributes_other w ↦ row_joined c.args.directives.now g.t c.requires.array_cells c.requires.array_cells_2 c.loop-v.v (in_v (goal.at.loop-v-preserved c).In-loop-v) c.loop-v.invariant (is ∙ w.if-redistributes_other.true) (w.others-is ∙ w.join_row.ensures)
      | else-redistributes_other w ↦ subst (ArrayCells file (rows_to (others_to file (g.t + 1)) g.others.now (c.loop-v.v + 1))) (sym w.others-is)
          (row_left c.args.directives.now g.t c.requires.array_cells c.requires.array_cells_2 c.loop-v.v (in_v (goal.at.loop-v-preserved c).In-loop-v) c.loop-v.invariant (is ∙ w.if-redistributes_other.false))
    ]

pub shape_of-others : goal.shape_of-others
shape_of-others c = c.loop-v.invariant.size ∙ sym c.requires.array_cells_2.size

pub returns : goal.returns
returns c = rows_all (few_columns c.args.directives.now) (others_to c.args.directives.now.bytes (c.args.t + 1)) c.args.others.now c.loop-v.v (omega (arith, c.vertices-v-end.ensures)) c.loop-v.invariant
