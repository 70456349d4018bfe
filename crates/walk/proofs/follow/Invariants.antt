-- `walk::follow` meets its contract: at each vertex of the path the references, and then the labels.
use Prim.Native.Nat.{◌+◌, ◌≤◌}
use Rattle.demand.specs.Run.{state_after}
use Rattle.walk.specs.Walks.{Held}
use Rattle.walk.proofs.Held.{Untouched}
use Rattle.walk.proofs.Walking.{Walking}
use Rattle.walk.proofs.follow.Given as goal

-- the labels of vertex v: the first a arrays are done
abbrev pub invariant-loop-a : goal.invariant-loop-a
invariant-loop-a l = (l.a ≤ l.m) × Held l.routine.bytes (λ b. state_after l.routine.bytes l.path b (l.i + 1)) l.a l.states l.versions l.stamps l.others × Untouched l.a l.initial.states l.initial.stamps l.initial.others l.states l.stamps l.others

abbrev pub invariant-loop-i : goal.invariant-loop-i
invariant-loop-i l = Walking l.routine.bytes l.path l.initial.out l.at l.i l.states l.versions l.stamps l.others l.out
