-- `check_ambiguous` meets its contract: a scan of the vertices.
use mathlib.Core.Bool.{not}
use Rattle.labels.specs.Ambiguity.{is_ambiguous}
use Rattle.refusal.proofs.Checks.{Undecided}
use Rattle.refusal.specs.Checks.{holds, first_failed}
use Rattle.routine.specs.Layout.{arrays, vertices}
use Rattle.refusal.specs.declared.Refusal.TheVariants.{AmbiguousReference}
use Rattle.checks.proofs.check_ambiguous.Given as goal

abbrev pub invariant-loop-v : goal.invariant-loop-v
invariant-loop-v l = Undecided (λ v'. first_failed (λ a. holds (not (is_ambiguous l.routine.bytes a v')) (AmbiguousReference v' a)) 0 (arrays l.routine.bytes)) (vertices l.routine.bytes) l.v
