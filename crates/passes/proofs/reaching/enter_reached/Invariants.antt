-- `reaching::enter_reached` meets its contract: a row is replaced.
use Prim.Native.Nat.{◌*◌}
use Rattle.routine.specs.Layout.{entry}
use Rattle.words.proofs.Replaced.{Replacing}
use Rattle.passes.proofs.reaching.enter_reached.Given as goal

abbrev pub invariant-loop-a : goal.invariant-loop-a
invariant-loop-a l = Replacing l.initial.gives (8 * entry) (λ b. 1) l.m l.gives l.a
