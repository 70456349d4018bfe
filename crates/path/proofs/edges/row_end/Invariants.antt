-- `edges::row_end` meets its contract. The invariant: the edges before i leave v or earlier vertices, the others v or later ones.
use Rattle.path.proofs.Places.{InRow}
use Rattle.path.proofs.edges.row_end.Given as goal

abbrev pub invariant-loop-i : goal.invariant-loop-i
invariant-loop-i l = InRow l.routine.bytes l.v l.i
