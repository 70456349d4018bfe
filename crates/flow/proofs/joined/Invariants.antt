-- `flow::joined` meets its contract: a row is filled.
use lib.Bits.{bit_or}
use lib.ListN.{get_or}
use Rattle.words.proofs.Filling.{Filling}
use Rattle.flow.proofs.joined.Given as goal

abbrev pub invariant-loop-a : goal.invariant-loop-a
invariant-loop-a l = Filling (λ b. bit_or (get_or l.held b 0) (get_or l.brought b 0)) 8 l.initial.row l.row l.a
