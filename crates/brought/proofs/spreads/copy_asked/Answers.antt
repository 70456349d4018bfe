-- `spreads::copy_asked` meets its contract: vertex after vertex, those rows are copied that are asked for.
use mathlib.Core.Path.{sym, ap, ◌∙◌}
use Prim.Native.Nat.{◌<◌}
use native.Mathlib.Omega.{arith}
use Rattle.directives.specs.Layout.{vertices}
use Rattle.directives.proofs.Limits.{read_limits}
use Rattle.brought.specs.Cells.{realigns_with}
use Rattle.brought.proofs.SpreadRows.{copying_begin, copying_on, copying_next, copying_end}
use Rattle.brought.proofs.spreads.copy_asked.Goals as goal
use Rattle.brought.proofs.spreads.copy_asked.Goals.{In-loop-v, then-realigns_with, else-realigns_with}

-- what holds in a turn
module _ (c : In-loop-v) where
  in_v : c.loop-v.v < vertices c.args.directives.now.bytes
  in_v = omega (arith, c.vertices-v-end.ensures)

  small : c.loop-v.v < 256
  small = omega (arith, in_v, (read_limits c.args.directives.now).few_vertices)

pub loop-v-init : goal.loop-v-init
loop-v-init c = (omega arith, copying_begin c.requires.spreads_to)

pub directive-requires : goal.directive-requires
directive-requires c = in_v c

pub copy_row-requires : goal.copy_row-requires
copy_row-requires c =
    record {
      v_bound = small (goal.at.copy_row-requires c).In-loop-v;
      v_in_bounds = omega (arith, in_v (goal.at.copy_row-requires c).In-loop-v, c.requires.cells.size);
      v_in_bounds_2 = omega (arith, in_v (goal.at.copy_row-requires c).In-loop-v, c.loop-v.invariant.1.size);
    }

pub loop-v-smaller : goal.loop-v-smaller
loop-v-smaller c = omega (arith, c.loop-v-test.true)

pub loop-v-preserved : goal.loop-v-preserved
loop-v-preserved c =
    let h = c.loop-v.invariant.1 in
    let told = c.realigns_with.ensures ∙ ap (realigns_with c.args.t) c.directive.ensures in (
      omega (arith, c.loop-v-test.true),
      elim c.if-realigns_with.branch [
        | then-realigns_with w ↦ copying_next h (sym w.if-realigns_with.true ∙ told) (in_v (goal.at.loop-v-preserved c).In-loop-v) c.requires.cells (w.spreads-is ∙ w.copy_row.ensures)
        | else-realigns_with w ↦ copying_on h (sym w.if-realigns_with.false ∙ told) w.spreads-is
      ],
    )

pub shape_of-spreads : goal.shape_of-spreads
shape_of-spreads c = c.loop-v.invariant.1.size ∙ sym c.requires.spreads_to.size

pub returns : goal.returns
returns c = copying_end c.loop-v.invariant.1 (omega (arith, c.vertices-v-end.ensures))
