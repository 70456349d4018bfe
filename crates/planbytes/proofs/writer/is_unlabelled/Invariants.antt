-- `writer::is_unlabelled` meets its contract. The invariant: if `all` is empty, so are the first a cells.
use mathlib.Core.Path.{◌≡◌}
use Prim.Native.Nat.{ℕ, ◌+◌, ◌*◌, ◌≤◌, ◌<◌}
use lib.ListN.{get_or}
use Rattle.planbytes.proofs.writer.is_unlabelled.Given as goal

abbrev pub invariant-loop-a : goal.invariant-loop-a
invariant-loop-a l = (l.a ≤ 8) × (l.all ≡ 0 → (b : ℕ) → b < l.a → get_or l.versions (8 * l.v + b) 0 ≡ 0)
