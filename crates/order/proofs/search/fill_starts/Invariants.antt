-- `order::search::fill_starts` stores within the table. The measure is what is left of the edges.
use Prim.Native.Nat.{◌-◌, ◌≤◌}
use Rattle.order.proofs.search.fill_starts.Given as goal

abbrev pub invariant-loop-j : goal.invariant-loop-j
invariant-loop-j l = l.j ≤ l.count
