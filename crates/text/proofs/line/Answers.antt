-- `text::line` meets its contract. The invariant: the first i cells stand at the front, and `at` is how long these are.
-- Assumes nothing.
use mathlib.Core.Path.{refl, sym}
use native.Mathlib.Omega.{arith}
use lib.ListN.{length}
use lib.Seq.{length-take-le}
use Rattle.words.specs.Tables.{rows}
use Rattle.words.proofs.Buffers.{begin, buffer_length, end, lends, lies, next_row, onward, all, lies_all}
use Rattle.text.proofs.Cells.{cell_most, cells_most}
use Rattle.text.proofs.line.Goals as goal

pub loop-i-init : goal.loop-i-init
unfolding rows
loop-i-init c = (begin _ _ _ (omega (arith, c.requires, cells_most c.args.columns.now (length c.args.columns.now))), refl)

pub slice_bounds-put_cell-count : goal.slice_bounds-put_cell-count
slice_bounds-put_cell-count c = lies c.loop-i.invariant.0 c.loop-i.invariant.1 (omega arith)

pub slice_bounds-put_cell-start : goal.slice_bounds-put_cell-start
slice_bounds-put_cell-start c = slice_bounds-put_cell-count c

pub put_cell-at-requires : goal.put_cell-at-requires
put_cell-at-requires c = lends c.loop-i.invariant.0.front c.loop-i.invariant.1 (omega (arith, c.requires, c.loop-i.invariant.1, cells_most c.args.columns.now c.loop-i.i))

pub overflow_add-at : goal.overflow_add-at
overflow_add-at c =
    omega (
      arith,
      c.requires,
      c.loop-i.invariant.1,
      cells_most c.args.columns.now c.loop-i.i,
      c.put_cell-at.ensures.value,
      cell_most c.args.columns.now c.loop-i.i,
    )

pub loop-i-preserved : goal.loop-i-preserved
loop-i-preserved c = (
  next_row c.loop-i.invariant.0 c.loop-i.invariant.1 (omega arith) c.put_cell-at.ensures.out_after,
  onward c.loop-i.invariant.0 c.loop-i.invariant.1 c.put_cell-at.ensures.value,
)

pub shape_of-out : goal.shape_of-out
shape_of-out c = buffer_length c.loop-i.invariant.0

pub returns : goal.returns
returns c =
    let long = all c.loop-i.invariant.0 c.loop-i.invariant.1 (omega arith) in
    let fits = lies_all c.loop-i.invariant.0 long in
    record {
      prefix_len = (fits, sym (length-take-le c.loop-i.at c.loop-i.out fits));
      value = long;
      out_after = end c.loop-i.invariant.0 (omega arith);
    }
