-- `edge::check_all` meets its contract: a scan of the edges.
use Rattle.refusal.proofs.Checks.{Undecided}
use Rattle.directives.specs.Fields.{in_order, edge_fields}
use Rattle.directives.specs.Layout.{edges}
use Rattle.directives.proofs.edge.check_all.Given as goal

abbrev pub invariant-loop-i : goal.invariant-loop-i
invariant-loop-i l = Undecided (λ i'. in_order l.laid.bytes (edge_fields l.laid.bytes i')) (edges l.laid.bytes) l.i
