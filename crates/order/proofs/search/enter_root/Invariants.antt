-- `order::search::enter_root` stays within the table. The measure is what is left of it.
use Prim.Native.Nat.{◌-◌, ◌≤◌}
use Rattle.order.proofs.search.enter_root.Given as goal

abbrev pub invariant-loop-root : goal.invariant-loop-root
invariant-loop-root l = l.root ≤ 256
