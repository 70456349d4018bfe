-- `references_at` meets its contract: the invariant counts the references to the arrays passed.
use mathlib.Core.Path.{◌≡◌}
use Prim.Native.Nat.{◌≤◌}
use Rattle.routine.specs.Layout.{arrays}
use Rattle.labels.specs.Events.{event}
use Rattle.routine.specs.Actions.{is_reference}
use Rattle.words.specs.Sums.{count_of}
use Rattle.report.proofs.references_at.Given as goal

abbrev pub invariant-loop-a : goal.invariant-loop-a
invariant-loop-a l = (l.a ≤ arrays l.routine.bytes) × (l.count ≡ count_of (λ b. is_reference (event l.routine.bytes b l.v)) l.a)
