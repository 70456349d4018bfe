-- `row_ambiguous` meets its contract: a scan of the columns.
use mathlib.Core.Path.{◌≡◌}
use mathlib.Core.Bool.{◌&&◌}
use Prim.Native.Nat.{◌+◌, ◌*◌, ◌≤◌}
use lib.ListN.{get_or}
use Rattle.sets.specs.Sets.{has, several}
use Rattle.words.specs.Sums.{any_below}
use Rattle.checks.proofs.row_ambiguous.Given as goal

abbrev pub invariant-loop-a : goal.invariant-loop-a
invariant-loop-a l = (l.a ≤ 8) × (l.any ≡ any_below (λ b. has (get_or l.uses (8 * l.v + b) 0) 0 && several (get_or l.reaching (8 * l.v + b) 0)) l.a)
