-- `row_writes` meets its contract: a scan of the columns.
use mathlib.Core.Path.{◌≡◌}
use mathlib.Core.Bool.{not}
use Prim.Native.Nat.{◌+◌, ◌*◌, ◌≤◌}
use lib.Bits.{bit_and}
use lib.Dec.{eqb}
use lib.ListN.{get_or}
use Rattle.words.specs.Sums.{any_below}
use Rattle.checks.proofs.row_writes.Given as goal

abbrev pub invariant-loop-a : goal.invariant-loop-a
invariant-loop-a l = (l.a ≤ 8) × (l.any ≡ any_below (λ b. not (eqb (bit_and (get_or l.uses (8 * l.v + b) 0) (get_or l.masks b 0)) 0)) l.a)
