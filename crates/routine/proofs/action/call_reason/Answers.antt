-- `call_reason` meets its contract: a call's reason, or 15.
use mathlib.Core.Path.{sym, ap, ◌∙◌}
use mathlib.Core.Bool.{Bool}
use lib.Dec.{leb}
use Rattle.routine.specs.Actions.{called_version}
use Rattle.routine.specs.Rows.{known_reason}
use Rattle.words.proofs.Tests.{not_below}
use Rattle.routine.proofs.Rows as rows
use Rattle.routine.proofs.action.call_reason.Goals as goal

pub returns-then-is_call : goal.returns-then-is_call
returns-then-is_call c =
    let a = c.args in
    c.known_reason.ensures
    ∙ ap (λ (large : Bool). known_reason large a.terminal a.byte) (ap (leb a.versions) c.called_version.ensures ∙ not_below (called_version a.b) a.versions)
    ∙ sym (rows.call_reason a.b a.versions a.terminal a.byte c.requires (sym c.is_call.ensures ∙ c.if-is_call.true))

pub returns : goal.returns
returns c =
    let a = c.args in
    sym (rows.unknown_reason a.b a.versions a.terminal a.byte c.requires (sym c.is_call.ensures ∙ c.if-is_call.false))
