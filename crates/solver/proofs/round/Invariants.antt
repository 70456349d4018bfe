-- `solver::round` meets its contract. The invariant: the turns before block b were taken, or alter nothing. The measure is what is left of the blocks.
use mathlib.Core.Path.{◌≡◌}
use Prim.Native.Nat.{◌-◌, ◌≤◌}
use lib.ListN.{length}
use Rattle.solver.specs.Blocks.{block_start, Taken}
use Rattle.solver.proofs.round.Given as goal

abbrev pub invariant-loop-b : goal.invariant-loop-b
invariant-loop-b l = (l.b ≤ 64) × (length l.sets ≡ length l.initial.sets)
    × Taken l.edges l.order l.along l.gives l.passes l.initial.sets (block_start (length l.order) l.b) (block_start (length l.order) l.b) l.sets l.p

abbrev pub decreases-loop-b : goal.decreases-loop-b
decreases-loop-b l = 64 - l.b
