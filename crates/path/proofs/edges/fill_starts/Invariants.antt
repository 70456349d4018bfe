-- `edges::fill_starts` meets its contract. The invariant: `at` is where the edges from v start, and the table is filled in for each vertex
-- before v.
use Prim.Native.Nat.{◌≤◌}
use Rattle.path.specs.Places.{RowStart}
use Rattle.path.proofs.Places.{StartsTo}
use Rattle.path.proofs.edges.fill_starts.Given as goal

abbrev pub invariant-loop-v : goal.invariant-loop-v
invariant-loop-v l = (l.v ≤ l.n) × RowStart l.routine.bytes l.v l.at × StartsTo l.routine.bytes l.initial.starts l.starts l.v
