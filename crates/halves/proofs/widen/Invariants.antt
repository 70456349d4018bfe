-- `halves::widen` meets its contract: a table is filled with the halves.
use lib.ListN.{get_or}
use Rattle.words.proofs.Filling.{Filling}
use Rattle.halves.proofs.widen.Given as goal

abbrev pub invariant-loop-i : goal.invariant-loop-i
invariant-loop-i l = Filling (λ i'. get_or l.halves i' 0) l.i-end l.initial.sets l.sets l.i
