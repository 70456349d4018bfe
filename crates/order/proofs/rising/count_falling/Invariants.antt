-- `count_falling` meets its contract: the invariant counts the falling edges passed.
use mathlib.Core.Path.{◌≡◌}
use Prim.Native.Nat.{◌-◌, ◌≤◌}
use Rattle.flow.specs.Paths.{edge_count}
use Rattle.words.specs.Sums.{count_of}
use Rattle.order.specs.Falling.{is_falling}
use Rattle.order.proofs.rising.count_falling.Given as goal

abbrev pub invariant-loop-i : goal.invariant-loop-i
invariant-loop-i l = (l.i ≤ edge_count l.edges) × (l.count ≡ count_of (is_falling l.edges) l.i)
