-- `order::search::settle` meets its contract. The invariant: every edge has its place.
use mathlib.Core.Path.{sym, subst}
use Prim.Native.Nat.{ℕ, ◌<◌}
use native.Mathlib.Omega.{arith}
use Rattle.order.specs.Places.{Placed}
use Rattle.flow.specs.Paths.{edge_count}
use Rattle.order.proofs.search.settle.Goals as goal
use Rattle.order.proofs.search.settle.Goals.{Else-not-leaves}

-- edge i is there
listed : (c : Else-not-leaves) → c.loop-left.i < edge_count c.args.edges.now
listed c = c.leaves.ensures (c.if-not-leaves.false)

pub swap-requires : goal.swap-requires
swap-requires c =
    let p = c.loop-left.invariant.0 in
    record {
      placed = subst (λ (n : ℕ). Placed n c.loop-left.order c.loop-left.place) (sym p.all) p;
      slot_in_bounds = omega (arith, p.all);
      i_in_bounds = omega (arith, p.all, listed (goal.at.swap-requires c).Else-not-leaves);
    }

pub overflow_add-i : goal.overflow_add-i
overflow_add-i c = omega (arith, listed (goal.at.overflow_add-i c).Else-not-leaves)

pub loop-left-preserved : goal.loop-left-preserved
loop-left-preserved c = (subst (λ (n : ℕ). Placed n c.swap.new.order c.swap.new.place) c.loop-left.invariant.0.all c.swap.ensures, omega arith)
