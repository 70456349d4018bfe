-- `check::check_row` meets its contract: a scan of the arrays.
use mathlib.Core.Bool.{not}
use Rattle.directives.specs.Layout.{arrays}
use Rattle.mappings.specs.Computed.{left_set}
use Rattle.refusal.proofs.Checks.{Undecided}
use Rattle.refusal.specs.Checks.{holds}
use Rattle.refusal.specs.declared.Refusal.TheVariants.{TwoMappings}
use Rattle.sets.specs.Sets.{several}
use Rattle.left.proofs.check.check_row.Given as goal

abbrev pub invariant-loop-a : goal.invariant-loop-a
invariant-loop-a l = Undecided (λ b. holds (not (several (left_set l.directives.bytes b l.v))) (TwoMappings l.v b)) (arrays l.directives.bytes) l.a
