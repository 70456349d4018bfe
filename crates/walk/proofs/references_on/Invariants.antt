-- `references_on` meets its contract: the invariant counts the references at the vertices passed.
use mathlib.Core.Path.{◌≡◌}
use Prim.Native.Nat.{◌≤◌}
use Rattle.path.specs.Paths.{steps}
use Rattle.walk.specs.Report.{references_on}
use Rattle.walk.proofs.references_on.Given as goal

abbrev pub invariant-loop-i : goal.invariant-loop-i
invariant-loop-i l = (l.i ≤ steps l.path) × (l.count ≡ references_on l.routine.bytes l.path l.i)
