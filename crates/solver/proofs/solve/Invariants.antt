-- `solver::solve` meets its contract. The invariant: r rounds were made, and each altered a set.
use Rattle.flow.specs.Solver.{Going, row_count}
use Rattle.solver.proofs.solve.Given as goal

abbrev pub invariant-loop-r : goal.invariant-loop-r
invariant-loop-r l = Going l.edges l.order l.along l.gives l.passes (row_count l.initial.sets) l.sets l.r
