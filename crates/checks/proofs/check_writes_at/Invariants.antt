-- `check_writes_at` meets its contract: a scan of the arrays.
use mathlib.Core.Bool.{not}
use Rattle.labels.specs.Checks.{writes_in}
use Rattle.refusal.proofs.Checks.{Undecided}
use Rattle.refusal.specs.Checks.{holds}
use Rattle.routine.specs.Layout.{arrays}
use Rattle.refusal.specs.declared.Refusal.TheVariants.{WritesInArgument}
use Rattle.checks.proofs.check_writes_at.Given as goal

abbrev pub invariant-loop-a : goal.invariant-loop-a
invariant-loop-a l = Undecided (λ a'. holds (not (writes_in l.routine.bytes a' l.v)) (WritesInArgument l.v a')) (arrays l.routine.bytes) l.a
