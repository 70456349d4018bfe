-- `order::search::search` meets its contract. The invariant: every edge has its place. The measure is the steps that are left.
use Prim.Native.Nat.{◌-◌, ◌≤◌}
use Rattle.flow.specs.Paths.{edge_count}
use Rattle.order.specs.Places.{Placed}
use Rattle.order.proofs.search.search.Given as goal

abbrev pub invariant-loop-step : goal.invariant-loop-step
invariant-loop-step l = Placed (edge_count l.edges) l.order l.place × (l.slot ≤ edge_count l.edges) × (l.step ≤ 256)
