-- `uses::write` meets its contract: a table is filled.
use lib.ListN.{get_or}
use Rattle.labels.specs.Letters.{letter_byte}
use Rattle.labels.specs.Uses.{letter_of}
use Rattle.words.proofs.Filling.{Filling}
use Rattle.passes.proofs.uses.write.Given as goal

abbrev pub invariant-loop-i : goal.invariant-loop-i
invariant-loop-i l = Filling (λ i'. letter_byte (letter_of (get_or l.sets i' 0))) l.i-end l.initial.letters l.letters l.i
