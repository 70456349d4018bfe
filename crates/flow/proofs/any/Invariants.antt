-- `flow::any` meets its contract.
use mathlib.Core.Path.{◌≡◌}
use Prim.Native.Nat.{◌≤◌}
use Rattle.flow.specs.Solver.{in_all}
use Rattle.flow.proofs.any.Given as goal

abbrev pub invariant-loop-a : goal.invariant-loop-a
invariant-loop-a l = (l.a ≤ 8) × (l.all ≡ in_all l.note l.a)
