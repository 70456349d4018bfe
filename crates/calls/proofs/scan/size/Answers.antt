-- `scan::size` meets its contract: three vertices of a call, else one.
use mathlib.Core.Path.{sym, ◌∙◌}
use Rattle.calls.proofs.scan.size.Goals as goal

pub returns-then-call : goal.returns-then-call
returns-then-call c = rw (sym c.is_call_row-call.ensures ∙ c.if-call.true)

pub returns : goal.returns
returns c = rw (sym c.is_call_row-call.ensures ∙ c.if-call.false)
