-- `rows::if_passed` meets its contract.
use mathlib.Core.Path.{sym, ap, ◌∙◌}
use mathlib.Core.Bool.{Bool, cond}
use Rattle.calls.proofs.rows.if_passed.Goals as goal

pub returns-then-call : goal.returns-then-call
returns-then-call c = ap (λ (call : Bool). cond call c.args.byte 0x00) (sym c.if-call.true ∙ c.is_call-call.ensures)

pub returns : goal.returns
returns c = ap (λ (call : Bool). cond call c.args.byte 0x00) (sym c.if-call.false ∙ c.is_call-call.ensures)
