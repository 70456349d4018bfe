-- `check_writes` meets its contract: a scan of the vertices.
use mathlib.Core.Bool.{not}
use Rattle.labels.specs.Checks.{writes_in}
use Rattle.refusal.proofs.Checks.{Undecided}
use Rattle.refusal.specs.Checks.{holds, first_failed}
use Rattle.routine.specs.Layout.{arrays, vertices}
use Rattle.refusal.specs.declared.Refusal.TheVariants.{WritesInArgument}
use Rattle.checks.proofs.check_writes.Given as goal

abbrev pub invariant-loop-v : goal.invariant-loop-v
invariant-loop-v l = Undecided (λ v'. first_failed (λ a. holds (not (writes_in l.routine.bytes a v')) (WritesInArgument v' a)) 0 (arrays l.routine.bytes)) (vertices l.routine.bytes) l.v
