-- `total` meets its contract: the table has the number of labels behind the last vertex.
use mathlib.Core.Path.{◌≡◌, ap, ◌∙◌}
use Prim.Native.Nat.{ℕ}
use native.Mathlib.Nat.{le_refl}
use lib.ListN.{get_or}
use Rattle.planbytes.specs.Plan.{label_count}
use Rattle.routine.specs.Layout.{vertices}
use Rattle.planbytes.proofs.contents.total.Goals as goal
use Rattle.planbytes.proofs.contents.total.Goals.{After-vertices-n}

-- the last entry
last : (c : After-vertices-n) → get_or c.args.firsts.now c.vertices-n.result 0 ≡ label_count c.args.routine.now.bytes
unfolding label_count
last c = ap (λ (v : ℕ). get_or c.args.firsts.now v 0) c.vertices-n.ensures ∙ c.requires.firsts.first (vertices c.args.routine.now.bytes) (le_refl _)

pub returns : goal.returns
returns c = last (goal.at.returns c).After-vertices-n
