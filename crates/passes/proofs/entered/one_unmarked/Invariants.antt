-- `entered::one_unmarked` meets its contract: a scan of the marks.
use mathlib.Core.Path.{◌≡◌}
use Prim.Native.Nat.{◌≤◌}
use lib.Dec.{eqb}
use lib.ListN.{get_or}
use Rattle.words.specs.Sums.{any_below}
use Rattle.passes.proofs.entered.one_unmarked.Given as goal

abbrev pub invariant-loop-v : goal.invariant-loop-v
invariant-loop-v l = (l.v ≤ l.v-end) × (l.any ≡ any_below (λ u. eqb (get_or l.marks u 0) 0) l.v)
