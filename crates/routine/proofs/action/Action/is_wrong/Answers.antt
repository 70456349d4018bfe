-- `Action::is_wrong` meets its contract, by cases.
use mathlib.Core.Path.{sym, ap, ap₂, ◌∙◌}
use mathlib.Core.Bool.{Bool, not, ◌||◌}
use lib.Dec.{leb}
use Rattle.std.specs.Prelude.{Some}
use Rattle.routine.specs.declared.action.Family.TheVariants as F
use Rattle.routine.specs.Actions.{is_call, called_version, differ}
use Rattle.words.proofs.Tests.{not_below}
use Rattle.routine.proofs.Rows.{nothing_wrong, reference_wrong, remap_wrong, unknown_wrong}
use Rattle.routine.proofs.action.Action.is_wrong.Goals as goal

pub returns-in-Nothing : goal.returns-in-Nothing
returns-in-Nothing c =
    let a = c.args in
    sym (nothing_wrong a.b a.versions a.terminal a.family (sym c.requires ∙ c.in-Nothing.is))

pub returns-in-Reference : goal.returns-in-Reference
returns-in-Reference c =
    let a = c.args in
    ap (λ (mixed : Bool). a.terminal || mixed) c.is_other.ensures
    ∙ sym (reference_wrong a.b a.versions a.terminal a.family (sym c.requires ∙ c.in-Reference.is))

pub returns-in-Remap : goal.returns-in-Remap
returns-in-Remap c =
    let a = c.args in
    ap₂ (λ (large mixed : Bool). large || (a.terminal || mixed)) (not_below c.in-Remap.k a.versions) c.is_other-in-Remap.ensures
    ∙ sym (remap_wrong a.b a.versions a.terminal a.family (sym c.requires ∙ c.in-Remap.is))

pub returns-in-Unknown : goal.returns-in-Unknown
returns-in-Unknown c =
    let a = c.args in
    ap₂ (λ (call mixed : Bool). not call || (leb a.versions c.called_version.result || (a.terminal || mixed))) c.is_call.ensures c.is_other-in-Unknown.ensures
    ∙ ap (λ (large : Bool). not (is_call a.b) || (large || (a.terminal || differ (Some F.Call) a.family)))
    (ap (leb a.versions) c.called_version.ensures ∙ not_below (called_version a.b) a.versions)
    ∙ sym (unknown_wrong a.b a.versions a.terminal a.family (sym c.requires ∙ c.in-Unknown.is))
