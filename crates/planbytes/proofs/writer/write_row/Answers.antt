-- `writer::write_row` meets its contract. The invariant: the entries of the arrays before a are written, and `at` is how long these are.
use mathlib.Core.Path.{refl, sym, ap}
use native.Mathlib.Omega.{arith}
use lib.ListN.{length}
use Rattle.planbytes.specs.Plan.{label_row}
use Rattle.words.specs.Tables.{rows, wrote}
use Rattle.words.proofs.Buffers.{begin, end, lent, next_row, onward, all}
use Rattle.planbytes.proofs.Cells.{no_version}
use Rattle.planbytes.proofs.Sizes.{row_none}
use Rattle.planbytes.proofs.writer.write_row.Goals as goal

pub returns-then-is_unlabelled : goal.returns-then-is_unlabelled
returns-then-is_unlabelled c =
    let t = c.requires.tabled.versions_are in
    let none = c.is_unlabelled.ensures c.if-is_unlabelled.true in
    let e = row_none c.args.routine.now.bytes c.args.v (λ a l. no_version c.args.routine.now.bytes a c.args.v (t.cells a c.args.v l c.requires.v_bound) (none a (omega (arith, c.args.routine.now.well.laid.limits.few_arrays)))) in
    record {
      value = sym (ap length e);
      out_after = sym (ap (wrote c.args.out.now) e);
    }

pub loop-a-init : goal.loop-a-init
unfolding rows label_row
loop-a-init c = (begin _ _ _ c.requires.v_in_bounds, refl)

pub write_label-at-requires-clause-v_in_bounds : goal.write_label-at-requires-clause-v_in_bounds
write_label-at-requires-clause-v_in_bounds c = lent c.loop-a.invariant.0 c.loop-a.invariant.1 (omega arith)

pub loop-a-preserved : goal.loop-a-preserved
loop-a-preserved c = (
  next_row c.loop-a.invariant.0 c.loop-a.invariant.1 (omega arith) c.write_label-at.ensures.out_after,
  onward c.loop-a.invariant.0 c.loop-a.invariant.1 c.write_label-at.ensures.value,
)

pub returns : goal.returns
unfolding label_row
returns c =
    record {
      value = all c.loop-a.invariant.0 c.loop-a.invariant.1 (omega arith);
      out_after = end c.loop-a.invariant.0 (omega arith);
    }
