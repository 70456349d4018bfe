-- `fill` meets its contract: a table is filled.
use Rattle.routine.specs.Layout.{vertices}
use Rattle.words.proofs.Filling.{Filling}
use Rattle.report.specs.References.{references_at}
use Rattle.report.proofs.fill.Given as goal

abbrev pub invariant-loop-v : goal.invariant-loop-v
invariant-loop-v l = Filling (references_at l.routine.bytes) (vertices l.routine.bytes) l.initial.counts l.counts l.v
