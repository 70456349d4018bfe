-- `halves::put_high` meets its contract: a table is filled, the low half of each set read before it is written.
use lib.ListN.{get_or}
use Rattle.words.proofs.Filling.{Filling}
use Rattle.sets.specs.Sets.{low_half, of_halves}
use Rattle.halves.proofs.put_high.Given as goal

abbrev pub invariant-loop-i : goal.invariant-loop-i
invariant-loop-i l = Filling (λ i'. of_halves (low_half (get_or l.initial.sets i' 0)) (get_or l.halves i' 0)) l.i-end l.initial.sets l.sets l.i
