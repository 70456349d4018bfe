-- `spreads::copy_asked` meets its contract: vertex after vertex, those rows are copied that are asked for.
use Prim.Native.Nat.{◌≤◌}
use Rattle.brought.proofs.SpreadRows.{Copying}
use Rattle.brought.proofs.spreads.copy_asked.Given as goal

abbrev pub invariant-loop-v : goal.invariant-loop-v
invariant-loop-v l = (l.v ≤ l.v-end) × Copying l.directives.bytes l.t l.spreads l.v
