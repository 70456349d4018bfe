-- `edges::find` meets its contract. The invariant: `size` edges from `low` on leave v, and an edge from v to w is one of them. The measure is
-- their number.
use Rattle.path.proofs.Places.{Among}
use Rattle.path.proofs.edges.find.Given as goal

abbrev pub invariant-loop-size : goal.invariant-loop-size
invariant-loop-size l = Among l.routine.bytes l.v l.w l.low l.size

abbrev pub decreases-loop-size : goal.decreases-loop-size
decreases-loop-size l = l.size
