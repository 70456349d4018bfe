-- `solver::mark_all` meets its contract. The invariant: the blocks of the turns so far are marked. The measure is what is left of the turns.
use mathlib.Core.Path.{◌≡◌}
use mathlib.Core.Bool.{true}
use Prim.Native.Nat.{ℕ, ◌≤◌, ◌<◌}
use lib.ListN.{length, get_or}
use Rattle.sets.specs.Sets.{has}
use Rattle.flow.specs.Solver.{far, turn}
use Rattle.solver.specs.Blocks.{block_of}
use Rattle.solver.proofs.mark_all.Given as goal

abbrev pub invariant-loop-j : goal.invariant-loop-j
invariant-loop-j l = (length l.marks ≡ length l.initial.marks) × (l.j ≤ length l.order)
    × ((k : ℕ) → k < l.j → has (get_or l.marks (far l.edges l.along (turn l.order l.along k)) 0) (block_of k) ≡ true)
