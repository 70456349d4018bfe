-- `write_entries` meets its contract: the invariant has the entries of the arrays passed at the front.
use mathlib.Core.Path.{◌≡◌, sym}
use Prim.Native.Nat.{◌*◌}
use native.Mathlib.Omega.{arith}
use lib.ListN.{length}
use Rattle.words.proofs.Buffers.{begin, lies, lent, next_row, buffer_length, end}
use Rattle.report.specs.Bytes.{carried_of, entries_of}
use Rattle.state.specs.Carrying.{bare}
use Rattle.report.proofs.Bytes.{entries-length}
use Rattle.report.proofs.write_entries.Goals as goal
use Rattle.report.proofs.write_entries.Goals.{At-loop-a}

-- where the entry of array a stands
here : (c : At-loop-a) → 8 * c.loop-a.a ≡ length (entries_of c.args.states c.loop-a.a)
here c = sym (entries-length (λ b. bare (carried_of c.args.states b)) c.loop-a.a)

pub loop-a-init : goal.loop-a-init
loop-a-init c = begin _ _ _ (omega (arith, entries-length (λ b. bare (carried_of c.args.states b)) c.args.m))

pub slice_bounds-write_entry-count : goal.slice_bounds-write_entry-count
slice_bounds-write_entry-count c = lies c.loop-a.invariant (here (goal.at.slice_bounds-write_entry-count c).At-loop-a) (omega arith)

pub slice_bounds-write_entry-start : goal.slice_bounds-write_entry-start
slice_bounds-write_entry-start c = lies c.loop-a.invariant (here (goal.at.slice_bounds-write_entry-start c).At-loop-a) (omega arith)

pub write_entry-requires : goal.write_entry-requires
write_entry-requires c = lent c.loop-a.invariant (here (goal.at.write_entry-requires c).At-loop-a) (omega arith)

pub loop-a-preserved : goal.loop-a-preserved
loop-a-preserved c = next_row c.loop-a.invariant (here (goal.at.loop-a-preserved c).At-loop-a) (omega arith) {ys = c.write_entry.new.out} c.write_entry.ensures

pub shape_of-out : goal.shape_of-out
shape_of-out c = buffer_length c.loop-a.invariant

pub returns : goal.returns
returns c = end c.loop-a.invariant (omega arith)
