-- `numbers::number_with` meets its contract: the column is numbered vertex by vertex.
use mathlib.Core.Path.{sym, subst, ◌∙◌}
use Prim.Native.Nat.{◌+◌, ◌*◌, ◌<◌}
use native.Mathlib.Omega.{arith}
use Rattle.flow.proofs.Cells.{in_cells}
use Rattle.directives.proofs.Limits.{read_limits}
use Rattle.directives.specs.Layout.{vertices}
use Rattle.directives.specs.declared.spread.Mapping.{Mapping}
use Rattle.numbering.specs.Lists.{Starts}
use Rattle.numbering.proofs.Columns.{column_start, column_next, column_end}
use Rattle.numbering.proofs.numbers.number_with.Goals as goal
use Rattle.numbering.proofs.numbers.number_with.Goals.{In-loop-v}

pub initial-requires : goal.initial-requires
initial-requires c =
    record {
      a_bound = c.requires.a_bound;
    }

pub start-requires : goal.start-requires
start-requires c = c.requires.list_len

pub loop-v-init : goal.loop-v-init
loop-v-init c =
    column_start c.requires.given_len
    (subst (λ (m : Mapping). Starts m c.start.new.list) c.initial.ensures c.start.ensures)

-- in the loop there is such a vertex, and its cell is in the table
in_v : (c : In-loop-v) → c.loop-v.v < vertices c.args.directives.now.bytes
in_v c = omega (arith, c.vertices-v-end.ensures)

few : (c : In-loop-v) → 8 * c.loop-v.v + c.args.a < 8 * vertices c.args.directives.now.bytes
few c = in_cells (read_limits c.args.directives.now).few_arrays c.requires.a_bound (in_v c)

most : (c : In-loop-v) → 8 * c.loop-v.v + c.args.a < 2048
most c = omega (arith, few c, (read_limits c.args.directives.now).few_vertices)

pub add-p-requires : goal.add-p-requires
add-p-requires c =
    let l = c.loop-v.invariant in
    record {
      a_bound = c.requires.a_bound;
      v_bound = in_v (goal.at.add-p-requires c).In-loop-v;
      alignments = c.requires.alignments;
      spreads = c.requires.spreads;
      list_len = l.holds.room;
      count_bound = l.most;
    }

pub overflow_mul-at : goal.overflow_mul-at
overflow_mul-at c = omega (arith, most (goal.at.overflow_mul-at c).In-loop-v)

pub overflow_add-at : goal.overflow_add-at
overflow_add-at c = omega (arith, most (goal.at.overflow_add-at c).In-loop-v)

pub offset_bounds-given-at : goal.offset_bounds-given-at
offset_bounds-given-at c = omega (arith, most (goal.at.offset_bounds-given-at c).In-loop-v)

pub bounds-given-at : goal.bounds-given-at
bounds-given-at c = omega (arith, few (goal.at.bounds-given-at c).In-loop-v, c.loop-v.invariant.size)

pub loop-v-preserved : goal.loop-v-preserved
loop-v-preserved c = column_next (omega (arith, c.requires.a_bound, (read_limits c.args.directives.now).few_arrays)) (in_v (goal.at.loop-v-preserved c).In-loop-v) c.loop-v.invariant c.add-p.ensures

pub shape_of-given : goal.shape_of-given
shape_of-given c = c.loop-v.invariant.size ∙ sym c.requires.given_len

pub shape_of-list : goal.shape_of-list
shape_of-list c = c.loop-v.invariant.holds.room ∙ sym c.requires.list_len

pub returns : goal.returns
returns c = column_end (omega (arith, c.vertices-v-end.ensures)) c.loop-v.invariant
