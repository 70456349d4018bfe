-- `solver::take_block` meets its contract. The invariant: the turns from the start of the block up to j were taken. The measure is what is left of the block.
use mathlib.Core.Path.{◌≡◌}
use mathlib.Core.List.{List}
use Prim.Native.Nat.{ℕ, ◌≤◌}
use lib.ListN.{length}
use Rattle.flow.specs.Solver.{Recent}
use Rattle.solver.specs.Blocks.{Taken}
use Rattle.solver.proofs.take_block.Given as goal

abbrev pub invariant-loop-j : goal.invariant-loop-j
invariant-loop-j l = (length l.sets ≡ length l.initial.sets) × (l.j ≤ l.to)
    × ((old : List ℕ) → Taken l.edges l.order l.along l.gives l.passes old l.from l.to l.initial.sets l.initial.q → Taken l.edges l.order l.along l.gives l.passes old l.j l.to l.sets l.q)
    × Recent l.sets l.last
