-- `is_right` meets its contract.
use mathlib.Core.Path.{ap, ◌∙◌}
use mathlib.Core.Bool.{Bool, ◌&&◌, ◌||◌}
use lib.Dec.{eqb}
use Rattle.routine.specs.Actions.{is_reference}
use Rattle.directives.proofs.vertex.is_right.Goals as goal

pub returns : goal.returns
returns c =
    let a = c.args in
    ap (λ (r : Bool). eqb a.b 0 || (r && a.free)) (c.is_reference.ensures ∙ ap is_reference c.from.ensures)
