-- `reaching::pass_reached` meets its contract: a table is filled.
use Rattle.words.proofs.Filling.{Filling}
use Rattle.passes.proofs.reaching.pass_reached.Given as goal

abbrev pub invariant-loop-i : goal.invariant-loop-i
invariant-loop-i l = Filling (λ i'. 1) l.i-end l.initial.passes l.passes l.i
