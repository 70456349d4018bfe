-- `reference_at` meets its contract, by cases of the test.
use mathlib.Core.Path.{◌≡◌, ap, ◌∙◌}
use Rattle.labels.specs.Events.{event}
use Rattle.routine.specs.Actions.{is_reference}
use Rattle.report.proofs.reference_at.Goals as goal
use Rattle.report.proofs.reference_at.Goals.{After-is_reference-reference}

-- what the test says
told : (c : After-is_reference-reference) →
    let a = c.args in
    c.is_reference-reference.result ≡ is_reference (event a.routine.now.bytes a.a a.v)
told c = c.is_reference-reference.ensures ∙ ap is_reference c.event.ensures

pub returns-then-reference : goal.returns-then-reference
returns-then-reference c = rw (← told (goal.at.returns-then-reference c).After-is_reference-reference, c.if-reference.true)

pub returns : goal.returns
returns c = rw (← told (goal.at.returns c).After-is_reference-reference, c.if-reference.false)
