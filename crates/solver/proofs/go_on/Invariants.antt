-- `solver::go_on` meets its contract. The invariant: so many rounds were made, each altered a set, and every edge of a block that is not pending
-- alters none. The measure is what is left of the rounds that there can be.
use Prim.Native.Nat.{◌-◌}
use Rattle.flow.specs.Solver.{row_count, Going}
use Rattle.solver.specs.Blocks.{Closed}
use Rattle.solver.proofs.go_on.Given as goal

abbrev pub invariant-loop-p : goal.invariant-loop-p
invariant-loop-p l = Going l.edges l.order l.along l.gives l.passes (row_count l.initial.sets) l.sets l.done × Closed l.edges l.order l.along l.gives l.passes 0 0 l.sets l.pending

abbrev pub decreases-loop-p : goal.decreases-loop-p
decreases-loop-p l = row_count l.initial.sets - l.done
