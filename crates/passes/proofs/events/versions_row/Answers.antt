-- `events::versions_row` meets its contract: a row is replaced.
use mathlib.Core.Path.{◌≡◌, refl, sym, ap, subst, ◌∙◌}
use Prim.Native.Nat.{◌<◌}
use native.Mathlib.Omega.{arith}
use Rattle.labels.specs.Events.{version_of, version_set}
use Rattle.labels.proofs.Rules.Events.{action_fits, in_row, row_action}
use Rattle.routine.specs.Actions.{action}
use Rattle.routine.specs.Layout.{arrays}
use Rattle.routine.specs.declared.action.Action.{Action}
use Rattle.words.proofs.Replaced.{replacing_begin, replacing_next, replacing_end}
use Rattle.sets.specs.Sets.{width}
use Rattle.passes.proofs.events.versions_row.Goals as goal
use Rattle.passes.proofs.events.versions_row.Goals.{In-loop-a, After-from-x}

-- what holds in a turn
module _ (c : In-loop-a) where
  in_a : c.loop-a.a < arrays c.args.routine.now.bytes
  in_a = omega (arith, c.arrays-a-end.ensures)

pub loop-a-init : goal.loop-a-init
loop-a-init c = replacing_begin _ _ _ _

pub bounds-row-a : goal.bounds-row-a
bounds-row-a c = in_row _ _ c.requires.row_value (in_a (goal.at.bounds-row-a c).In-loop-a)

read : (c : After-from-x) → c.from-x.result ≡ action c.args.routine.now.bytes c.loop-a.a c.args.v
read c = c.from-x.ensures ∙ row_action _ _ c.requires.row_value (in_a (goal.at.After-from-x c).In-loop-a)

pub version_set-requires : goal.version_set-requires
version_set-requires c = subst (λ (x : Action). version_of x < width) (sym (read (goal.at.version_set-requires c).After-from-x)) (action_fits c.args.routine.now.bytes c.loop-a.a c.args.v)

pub loop-a-preserved : goal.loop-a-preserved
loop-a-preserved c = replacing_next c.loop-a.invariant (in_a (goal.at.loop-a-preserved c).In-loop-a) refl (c.version_set.ensures ∙ ap version_set (read (goal.at.loop-a-preserved c).After-from-x))

pub returns : goal.returns
returns c = replacing_end c.loop-a.invariant (omega (arith, c.arrays-a-end.ensures))
