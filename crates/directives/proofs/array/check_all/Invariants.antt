-- `array::check_all` meets its contract: a scan of the arrays.
use Rattle.refusal.proofs.Checks.{Undecided}
use Rattle.directives.specs.Fields.{in_order, array_fields}
use Rattle.directives.specs.Layout.{arrays}
use Rattle.directives.proofs.array.check_all.Given as goal

abbrev pub invariant-loop-a : goal.invariant-loop-a
invariant-loop-a l = Undecided (λ a'. in_order l.laid.bytes (array_fields l.laid.bytes a')) (arrays l.laid.bytes) l.a
