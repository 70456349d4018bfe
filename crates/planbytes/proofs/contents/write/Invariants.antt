-- `contents::write` meets its contract. The invariant: the entries of the vertices before v are written.
use Rattle.planbytes.specs.Plan.{contents_entry}
use Rattle.routine.specs.Layout.{vertices}
use Rattle.words.proofs.Buffers.{Filled}
use Rattle.planbytes.proofs.contents.write.Given as goal

abbrev pub invariant-loop-v : goal.invariant-loop-v
invariant-loop-v l = Filled (contents_entry l.routine.bytes) (vertices l.routine.bytes) l.initial.out l.v l.out
