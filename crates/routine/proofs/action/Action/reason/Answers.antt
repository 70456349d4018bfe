-- `Action::reason` meets its contract, by cases.
use mathlib.Core.Path.{sym, ap, ◌∙◌}
use mathlib.Core.Bool.{Bool}
use Rattle.routine.specs.Rows.{known_reason}
use Rattle.words.proofs.Tests.{not_below}
use Rattle.routine.proofs.Rows.{nothing_reason, reference_reason, remap_reason}
use Rattle.routine.proofs.action.Action.reason.Goals as goal

pub call_reason-requires : goal.call_reason-requires
call_reason-requires c = sym c.requires ∙ c.in-Unknown.is

pub returns-in-Remap : goal.returns-in-Remap
returns-in-Remap c =
    let a = c.args in
    c.known_reason.ensures
    ∙ ap (λ (large : Bool). known_reason large a.terminal a.byte) (not_below c.in-Remap.k a.versions)
    ∙ sym (remap_reason a.b a.versions a.terminal a.byte (sym c.requires ∙ c.in-Remap.is))

pub returns-in-Reference : goal.returns-in-Reference
returns-in-Reference c =
    let a = c.args in
    c.known_reason-in-Reference.ensures
    ∙ sym (reference_reason a.b a.versions a.terminal a.byte (sym c.requires ∙ c.in-Reference.is))

pub returns-in-Nothing : goal.returns-in-Nothing
returns-in-Nothing c =
    let a = c.args in
    c.known_reason-in-Nothing.ensures
    ∙ sym (nothing_reason a.b a.versions a.terminal a.byte (sym c.requires ∙ c.in-Nothing.is))
