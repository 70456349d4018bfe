-- `scan::any_from` meets its contract: a scan of the bytes.
use mathlib.Core.Path.{◌≡◌}
use Prim.Native.Nat.{◌+◌, ◌≤◌}
use lib.ListN.{get_or}
use Rattle.words.specs.Sums.{any_below}
use Rattle.routine.specs.Actions.{is_call}
use Rattle.calls.proofs.scan.any_from.Given as goal

abbrev pub invariant-loop-i : goal.invariant-loop-i
invariant-loop-i l = (l.i ≤ l.n) × (l.any ≡ any_below (λ j. is_call (get_or l.file (l.at + j) 0)) l.i)
