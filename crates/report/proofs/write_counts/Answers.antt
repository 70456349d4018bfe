-- `write_counts` meets its contract: the invariant has the counts passed at the front.
use mathlib.Core.Path.{◌≡◌, sym}
use Prim.Native.Nat.{◌*◌}
use native.Mathlib.Omega.{arith}
use lib.ListN.{length, get_or}
use Rattle.words.specs.Words.{bytes16}
use Rattle.words.specs.Tables.{rows}
use Rattle.words.proofs.Buffers.{begin, lies, lent, next_row, buffer_length, end}
use Rattle.report.proofs.Bytes.{counts-length}
use Rattle.report.proofs.write_counts.Goals as goal
use Rattle.report.proofs.write_counts.Goals.{At-loop-i}

-- where count i stands
here : (c : At-loop-i) → 2 * c.loop-i.i ≡ length (rows (λ j. bytes16 (get_or c.args.counts.now j 0)) c.loop-i.i)
here c = sym (counts-length (λ j. get_or c.args.counts.now j 0) c.loop-i.i)

pub loop-i-init : goal.loop-i-init
loop-i-init c =
    let a = c.args in
    begin _ _ _ (omega (arith, counts-length (λ j. get_or a.counts.now j 0) (length a.counts.now), c.requires.counts_in_bounds))

pub overflow_mul-at : goal.overflow_mul-at
overflow_mul-at c = omega (arith, c.requires.counts_len_bound)

pub slice_bounds-write16-count : goal.slice_bounds-write16-count
slice_bounds-write16-count c = lies c.loop-i.invariant (here (goal.at.slice_bounds-write16-count c).At-loop-i) (omega arith)

pub slice_bounds-write16-start : goal.slice_bounds-write16-start
slice_bounds-write16-start c = lies c.loop-i.invariant (here (goal.at.slice_bounds-write16-start c).At-loop-i) (omega arith)

pub offset_bounds-counts-i : goal.offset_bounds-counts-i
offset_bounds-counts-i c = omega (arith, c.requires.counts_len_bound)

pub write16-requires : goal.write16-requires
write16-requires c =
    record {
      in_bounds = lent c.loop-i.invariant (here (goal.at.write16-requires c).At-loop-i) (omega arith);
      n_bound = omega (arith, c.type_inv.counts c.loop-i.i);
    }

pub loop-i-preserved : goal.loop-i-preserved
loop-i-preserved c = next_row c.loop-i.invariant (here (goal.at.loop-i-preserved c).At-loop-i) (omega arith) {ys = c.write16.new.out} c.write16.ensures

pub shape_of-out : goal.shape_of-out
shape_of-out c = buffer_length c.loop-i.invariant

pub returns : goal.returns
returns c = end c.loop-i.invariant (omega arith)
