-- `references::referring_byte` meets its contract: the test decides.
use mathlib.Core.Path.{sym, ◌∙◌}
use Rattle.calls.proofs.references.referring_byte.Goals as goal

pub returns-then-call : goal.returns-then-call
returns-then-call c = rw (sym c.is_call-call.ensures ∙ c.if-call.true) c.intent_byte.ensures

pub returns : goal.returns
returns c = rw (sym c.is_call-call.ensures ∙ c.if-call.false)
