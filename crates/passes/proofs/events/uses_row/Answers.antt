-- `events::uses_row` meets its contract: a row is replaced.
use mathlib.Core.Path.{refl, ap, ◌∙◌}
use Prim.Native.Nat.{◌<◌}
use native.Mathlib.Omega.{arith}
use Rattle.labels.specs.Uses.{use_gives}
use Rattle.labels.proofs.Rules.Events.{in_row, row_action}
use Rattle.routine.specs.Layout.{arrays}
use Rattle.words.proofs.Replaced.{replacing_begin, replacing_next, replacing_end}
use Rattle.passes.proofs.events.uses_row.Goals as goal
use Rattle.passes.proofs.events.uses_row.Goals.{In-loop-a}

-- what holds in a turn
module _ (c : In-loop-a) where
  in_a : c.loop-a.a < arrays c.args.routine.now.bytes
  in_a = omega (arith, c.arrays-a-end.ensures)

pub loop-a-init : goal.loop-a-init
loop-a-init c = replacing_begin _ _ _ _

pub bounds-row-a : goal.bounds-row-a
bounds-row-a c = in_row _ _ c.requires.row_value (in_a (goal.at.bounds-row-a c).In-loop-a)

pub loop-a-preserved : goal.loop-a-preserved
loop-a-preserved c =
    let below = in_a (goal.at.loop-a-preserved c).In-loop-a in
    replacing_next c.loop-a.invariant below refl (c.gives_of.ensures ∙ ap use_gives (c.from-x.ensures ∙ row_action _ _ c.requires.row_value below))

pub returns : goal.returns
returns c = replacing_end c.loop-a.invariant (omega (arith, c.arrays-a-end.ensures))
