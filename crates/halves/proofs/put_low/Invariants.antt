-- `halves::put_low` meets its contract: a table is filled, the high half of each set read before it is written.
use lib.ListN.{get_or}
use Rattle.words.proofs.Filling.{Filling}
use Rattle.sets.specs.Sets.{high_half, of_halves}
use Rattle.halves.proofs.put_low.Given as goal

abbrev pub invariant-loop-i : goal.invariant-loop-i
invariant-loop-i l = Filling (λ i'. of_halves (get_or l.halves i' 0) (high_half (get_or l.initial.sets i' 0))) l.i-end l.initial.sets l.sets l.i
