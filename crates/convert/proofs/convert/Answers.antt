-- `convert` meets its contract: 40 is handed on, and a file that passes it is converted.
use mathlib.Core.Path.{sym, ◌∙◌}
use Rattle.refusal.proofs.Checks.{exits}
use Rattle.convert.proofs.Ways.{malformed}
use Rattle.convert.proofs.convert.Goals as goal

pub returns-in_err-check : goal.returns-in_err-check
returns-in_err-check c = rw (exits c.from_residual.ensures) (malformed c.args.file.now c.args.out.now (sym c.check.ensures ∙ c.in_err-check.was))

pub new-directives-requires : goal.new-directives-requires
new-directives-requires c = record { passed = sym c.check.ensures ∙ c.in_ok-check.was; header = c.of.ensures.value }
