-- `order::search::settle` meets its contract. The invariant: every edge has its place.
use Prim.Native.Nat.{◌≤◌}
use Rattle.order.specs.Places.{Placed}
use Rattle.flow.specs.Paths.{edge_count}
use Rattle.order.proofs.search.settle.Given as goal

abbrev pub invariant-loop-left : goal.invariant-loop-left
invariant-loop-left l = Placed (edge_count l.edges) l.order l.place × (l.left ≤ edge_count l.edges)
