-- `flow::put` meets its contract: a row is replaced.
use lib.ListN.{get_or}
use Prim.Native.Nat.{◌*◌}
use Rattle.words.proofs.Replaced.{Replacing}
use Rattle.flow.proofs.put.Given as goal

abbrev pub invariant-loop-a : goal.invariant-loop-a
invariant-loop-a l = Replacing l.initial.sets (8 * l.v) (λ b. get_or l.row b 0) 8 l.sets l.a
