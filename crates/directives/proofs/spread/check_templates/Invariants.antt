-- `check_templates` meets its contract: a scan of the templates.
use Rattle.refusal.proofs.Checks.{Undecided}
use Rattle.directives.specs.Fields.{in_order, template_fields}
use Rattle.directives.specs.Layout.{templates}
use Rattle.directives.proofs.spread.check_templates.Given as goal

abbrev pub invariant-loop-t : goal.invariant-loop-t
invariant-loop-t l = Undecided (λ t'. in_order l.laid.bytes (template_fields l.laid.bytes t')) (templates l.laid.bytes) l.t
