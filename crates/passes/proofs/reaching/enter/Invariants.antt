-- `reaching::enter` meets its contract: a row is replaced.
use Prim.Native.Nat.{◌*◌}
use Rattle.labels.specs.Reaching.{reaching_of}
use Rattle.routine.specs.Layout.{arrays, entry}
use Rattle.words.proofs.Replaced.{Replacing}
use Rattle.passes.proofs.reaching.enter.Given as goal

abbrev pub invariant-loop-a : goal.invariant-loop-a
invariant-loop-a l = Replacing l.initial.sets (8 * entry) (λ b. reaching_of l.routine.bytes b entry) (arrays l.routine.bytes) l.sets l.a
