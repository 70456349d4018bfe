-- `edges::write` meets its contract. The invariant: the edges up to place p are written. The measure is what is left of vertices and edges.
use Prim.Native.Nat.{◌+◌, ◌-◌}
use Rattle.routine.specs.Layout.{vertices, edges}
use Rattle.words.proofs.Buffers.{Front}
use Rattle.calls.specs.Expanded.{edges_bytes}
use Rattle.calls.specs.Writing.{edges_up_to, Placed}
use Rattle.calls.proofs.edges.write.Given as goal

abbrev pub invariant-loop-p : goal.invariant-loop-p
invariant-loop-p l = Placed l.routine.bytes l.p × Front l.initial.out (edges_bytes (edges_up_to l.routine.bytes l.p.vertex l.p.edge)) l.out

abbrev pub decreases-loop-p : goal.decreases-loop-p
decreases-loop-p l = vertices l.routine.bytes + edges l.routine.bytes - (l.p.vertex + l.p.edge)
