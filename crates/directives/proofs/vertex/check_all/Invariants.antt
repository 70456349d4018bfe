-- `vertex::check_all` meets its contract: a scan of the vertices.
use Rattle.refusal.proofs.Checks.{Undecided}
use Rattle.directives.specs.Fields.{in_order, vertex_fields}
use Rattle.directives.specs.Layout.{vertices}
use Rattle.directives.proofs.vertex.check_all.Given as goal

abbrev pub invariant-loop-v : goal.invariant-loop-v
invariant-loop-v l = Undecided (λ v'. in_order l.laid.bytes (vertex_fields l.laid.bytes v')) (vertices l.laid.bytes) l.v
