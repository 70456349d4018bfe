-- `order::search::descend` reads and stores within the edges and tables. The measure is the steps that are left.
use Prim.Native.Nat.{◌-◌, ◌≤◌}
use Rattle.order.proofs.search.descend.Given as goal

abbrev pub invariant-loop-step : goal.invariant-loop-step
invariant-loop-step l = l.step ≤ l.step-end
