-- `order::search::descend` reads and stores within the edges and tables. The measure is the steps that are left.
use Prim.Native.Nat.{◌<◌}
use native.Mathlib.Omega.{arith}
use Rattle.flow.specs.Paths.{edge_count}
use Rattle.order.proofs.search.descend.Goals as goal
use Rattle.order.proofs.search.descend.Goals.{Else-not-leaves}

-- edge i is there
listed : (c : Else-not-leaves) → c.loop-step.i < edge_count c.args.edges.now
listed c = c.leaves.ensures (c.if-not-leaves.false)

pub overflow_mul-to : goal.overflow_mul-to
overflow_mul-to c = omega (arith, listed c)

pub overflow_add-to : goal.overflow_add-to
overflow_add-to c = omega (arith, listed c)

pub bounds-edges-i : goal.bounds-edges-i
bounds-edges-i c = omega (arith, listed (goal.at.bounds-edges-i c).Else-not-leaves)

pub overflow_cast-i : goal.overflow_cast-i
overflow_cast-i c = omega (arith, listed (goal.at.overflow_cast-i c).Else-not-leaves)

pub overflow_add-i : goal.overflow_add-i
overflow_add-i c = omega (arith, listed (goal.at.overflow_add-i c).Else-not-leaves)
