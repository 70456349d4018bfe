-- `walk::start_all` meets its contract: each array's state is filled in, one after the other.
use Prim.Native.Nat.{◌*◌, ◌≤◌}
use lib.ListN.{replicate}
use Rattle.routine.specs.Arrays.{array_of}
use Rattle.sets.specs.Sets.{width}
use Rattle.state.specs.Start.{started}
use Rattle.walk.specs.Walks.{Held}
use Rattle.walk.proofs.start_all.Given as goal

abbrev pub invariant-loop-a : goal.invariant-loop-a
invariant-loop-a l = (l.a ≤ l.a-end) × Held l.routine.bytes (λ b. started (array_of l.routine.bytes b)) l.a l.states l.versions l.stamps (replicate (8 * width) 0)
