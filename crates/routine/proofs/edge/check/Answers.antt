-- `edge::check` meets its contract: the ends and the order are one test.
use mathlib.Core.Path.{◌≡◌, refl, ap₂, ◌∙◌}
use mathlib.Core.Bool.{Bool, true, false, ◌&&◌}
use Rattle.refusal.specs.Checks.{◌and_then◌, holds}
use Rattle.refusal.specs.declared.Refusal.{Refusal}
use Rattle.routine.specs.Edges.{ends_within, edge_check}
use Rattle.routine.proofs.edge.check.Goals as goal

holds_both : (a b : Bool) (r : Refusal) → (holds a r and_then holds b r) ≡ holds (a && b) r
holds_both true b r = refl
holds_both false b r = refl

pub returns-then-not-right : goal.returns-then-not-right
unfolding edge_check
returns-then-not-right c =
    rw (
      c.edge_at.ensures.value,
      holds_both,
      ← c.has_ends.ensures ∙ ap₂ ends_within c.edge.ensures c.vertices.ensures,
      ← c.rises_at.ensures,
      c.if-not-right.true,
    )

pub returns : goal.returns
unfolding edge_check
returns c =
    rw (
      holds_both,
      ← c.has_ends.ensures ∙ ap₂ ends_within c.edge.ensures c.vertices.ensures,
      ← c.rises_at.ensures,
      c.if-not-right.false,
    )
