-- `check_references` meets its contract: a scan of the arrays.
use mathlib.Core.List.{[], ◌∷◌}
use Rattle.refusal.proofs.Checks.{Undecided}
use Rattle.directives.specs.Fields.{byte_field, in_order, is_right_reference}
use Rattle.directives.specs.Layout.{arrays, reference_at}
use Rattle.directives.proofs.vertex.check_references.Given as goal

abbrev pub invariant-loop-a : goal.invariant-loop-a
invariant-loop-a l = Undecided (λ a'. in_order l.laid.bytes (byte_field l.laid.bytes (reference_at l.laid.bytes l.v a') (is_right_reference l.laid.bytes l.v) ∷ [])) (arrays l.laid.bytes) l.a
