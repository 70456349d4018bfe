-- `check_ambiguous_at` meets its contract: a scan of the arrays.
use mathlib.Core.Bool.{not}
use Rattle.labels.specs.Ambiguity.{is_ambiguous}
use Rattle.refusal.proofs.Checks.{Undecided}
use Rattle.refusal.specs.Checks.{holds}
use Rattle.routine.specs.Layout.{arrays}
use Rattle.refusal.specs.declared.Refusal.TheVariants.{AmbiguousReference}
use Rattle.checks.proofs.check_ambiguous_at.Given as goal

abbrev pub invariant-loop-a : goal.invariant-loop-a
invariant-loop-a l = Undecided (λ a'. holds (not (is_ambiguous l.routine.bytes a' l.v)) (AmbiguousReference l.v a')) (arrays l.routine.bytes) l.a
