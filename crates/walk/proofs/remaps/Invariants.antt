-- `walk::remaps` meets its contract. The loop's invariant: no action so far is a remapping.
use mathlib.Core.Path.{◌≡◌}
use mathlib.Core.Bool.{false}
use Prim.Native.Nat.{ℕ, ◌≤◌, ◌<◌}
use Rattle.routine.specs.Actions.{action, is_remap}
use Rattle.walk.proofs.remaps.Given as goal

abbrev pub invariant-loop-a : goal.invariant-loop-a
invariant-loop-a l = (l.a ≤ l.a-end) × ((b : ℕ) → b < l.a → is_remap (action l.routine.bytes b l.v) ≡ false)
