-- `contents::write` meets its contract. The invariant: the entries of the vertices before v are written.
use native.Mathlib.Omega.{arith}
use Rattle.planbytes.specs.Plan.{contents_entry, contents}
use Rattle.routine.specs.Layout.{vertices}
use Rattle.words.proofs.Buffers.{begin, end, next_row}
use Rattle.planbytes.proofs.Sizes.{IndexEntry, entry-holds, entry_at}
use Rattle.planbytes.proofs.contents.write.Goals as goal
use Rattle.planbytes.proofs.contents.write.Goals.{In-loop-v}

pub loop-v-init : goal.loop-v-init
loop-v-init c = begin _ _ _ (omega (arith, c.requires.file_in_bounds, entry_at c.args.routine.now.bytes (vertices c.args.routine.now.bytes)))

-- what the table of indices says of vertex v
here : (c : In-loop-v) → IndexEntry c.args.routine.now.bytes c.args.firsts.now c.loop-v.v
here c =
    entry-holds c.args.routine.now.bytes c.args.routine.now.well.laid c.requires.firsts (omega (arith, c.loop-v-test.true, c.vertices-v-end.ensures))

pub overflow_sub-count : goal.overflow_sub-count
overflow_sub-count c = (here (goal.at.overflow_sub-count c).In-loop-v).rises

pub loop-v-preserved : goal.loop-v-preserved
unfolding contents_entry
loop-v-preserved c =
    let file = c.args.routine.now.bytes in
    let e = here (goal.at.loop-v-preserved c).In-loop-v in
    next_row c.loop-v.invariant (entry_at file c.loop-v.v) (omega arith) {ys = c.write_pair.new.out}
    (rw (← e.count_is, ← e.first_is) c.write_pair.ensures)

pub returns : goal.returns
unfolding contents
returns c = end c.loop-v.invariant (omega arith)
