-- `halves::take_high` meets its contract: a table is filled.
use lib.ListN.{get_or}
use Rattle.words.proofs.Filling.{Filling}
use Rattle.sets.specs.Sets.{high_half}
use Rattle.halves.proofs.take_high.Given as goal

abbrev pub invariant-loop-i : goal.invariant-loop-i
invariant-loop-i l = Filling (λ i'. high_half (get_or l.sets i' 0)) l.i-end l.initial.halves l.halves l.i
