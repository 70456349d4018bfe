-- `flow::edge_at` meets its contract: the edge at the place of the turn.
use mathlib.Core.Path.{sym, ap}
use mathlib.Core.Bool.{Bool}
use Prim.Native.Nat.{◌-◌}
use native.Mathlib.Omega.{arith}
use lib.ListN.{length}
use Rattle.flow.specs.Solver.{turn}
use Rattle.flow.proofs.edge_at.Goals as goal

pub overflow_cast-result : goal.overflow_cast-result
overflow_cast-result c = omega (arith, c.type_inv.order (length c.args.order.now - 1 - c.args.j))

pub returns-then-along : goal.returns-then-along
returns-then-along c = ap (λ (b : Bool). turn c.args.order.now b c.args.j) (sym c.if-along.true)

pub overflow_cast-result-2 : goal.overflow_cast-result-2
overflow_cast-result-2 c = omega (arith, c.type_inv.order c.args.j)

pub returns : goal.returns
returns c = ap (λ (b : Bool). turn c.args.order.now b c.args.j) (sym c.if-along.false)
