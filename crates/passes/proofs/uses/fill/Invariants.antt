-- `uses::fill` meets its contract: a table is filled.
use lib.ListN.{get_or}
use Rattle.labels.specs.Uses.{passes_by}
use Rattle.words.proofs.Filling.{Filling}
use Rattle.passes.proofs.uses.fill.Given as goal

abbrev pub invariant-loop-i : goal.invariant-loop-i
invariant-loop-i l = Filling (λ i'. passes_by (get_or l.uses i' 0)) l.i-end l.initial.passes l.passes l.i
