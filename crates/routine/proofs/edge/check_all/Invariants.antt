-- `edge::check_all` meets its contract: a scan of the edges.
use Rattle.routine.specs.Edges.{edge_check}
use Rattle.routine.specs.Layout.{edges}
use Rattle.refusal.proofs.Checks.{Undecided}
use Rattle.routine.proofs.edge.check_all.Given as goal

abbrev pub invariant-loop-i : goal.invariant-loop-i
invariant-loop-i l = Undecided (edge_check l.laid.bytes) (edges l.laid.bytes) l.i
