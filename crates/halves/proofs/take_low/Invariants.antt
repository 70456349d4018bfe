-- `halves::take_low` meets its contract: a table is filled; where the union of the high halves is empty, each of them is.
use mathlib.Core.Path.{◌≡◌}
use Prim.Native.Nat.{ℕ, ◌<◌}
use lib.ListN.{get_or}
use Rattle.words.proofs.Filling.{Filling}
use Rattle.sets.specs.Sets.{low_half, high_half}
use Rattle.halves.proofs.take_low.Given as goal

abbrev pub invariant-loop-i : goal.invariant-loop-i
invariant-loop-i l = Filling (λ i'. low_half (get_or l.sets i' 0)) l.i-end l.initial.halves l.halves l.i × (l.high ≡ 0 → (j : ℕ) → j < l.i → high_half (get_or l.sets j 0) ≡ 0)
