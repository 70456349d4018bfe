-- `check::check_rows` meets its contract: a scan of the vertices.
use mathlib.Core.Bool.{not}
use Rattle.directives.specs.Layout.{arrays, vertices}
use Rattle.mappings.specs.Computed.{left_set}
use Rattle.refusal.proofs.Checks.{Undecided}
use Rattle.refusal.specs.Checks.{holds, first_failed}
use Rattle.refusal.specs.declared.Refusal.TheVariants.{TwoMappings}
use Rattle.sets.specs.Sets.{several}
use Rattle.left.proofs.check.check_rows.Given as goal

abbrev pub invariant-loop-v : goal.invariant-loop-v
invariant-loop-v l = Undecided (λ v'. first_failed (λ a. holds (not (several (left_set l.directives.bytes a v'))) (TwoMappings v' a)) 0 (arrays l.directives.bytes)) (vertices l.directives.bytes) l.v
