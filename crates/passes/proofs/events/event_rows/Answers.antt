-- `events::event_rows` meets its contract: two rows are replaced.
use mathlib.Core.Path.{refl, sym, ap, subst, ◌∙◌}
use Prim.Native.Nat.{◌<◌}
use native.Mathlib.Omega.{arith}
use Rattle.labels.specs.Events.{version, version_of, version_set}
use Rattle.labels.specs.Uses.{use_gives}
use Rattle.labels.proofs.Rules.Events.{version_fits}
use Rattle.labels.proofs.Rules.Proper.{proper}
use Rattle.routine.specs.Layout.{arrays}
use Rattle.routine.specs.declared.action.Action.{Action}
use Rattle.words.proofs.Replaced.{replacing_begin, replacing_next, replacing_end}
use Rattle.sets.specs.Sets.{width}
use Rattle.passes.proofs.events.event_rows.Goals as goal
use Rattle.passes.proofs.events.event_rows.Goals.{In-loop-a}

-- what holds in a turn
module _ (c : In-loop-a) where
  in_a : c.loop-a.a < arrays c.args.routine.now.bytes
  in_a = omega (arith, c.arrays-a-end.ensures)

pub loop-a-init : goal.loop-a-init
loop-a-init c = (replacing_begin _ _ _ _, replacing_begin _ _ _ _)

pub version_set-requires : goal.version_set-requires
unfolding version
version_set-requires c =
    let file = c.args.routine.now.bytes in
    subst (λ (x : Action). version_of x < width) (sym c.event-x.ensures) (version_fits file c.loop-a.a (proper file c.args.routine.now.well c.loop-a.a (in_a (goal.at.version_set-requires c).In-loop-a)) c.args.v)

pub loop-a-preserved : goal.loop-a-preserved
loop-a-preserved c = (
  replacing_next c.loop-a.invariant.0 (in_a (goal.at.loop-a-preserved c).In-loop-a) refl (c.version_set.ensures ∙ ap version_set c.event-x.ensures),
  replacing_next c.loop-a.invariant.1 (in_a (goal.at.loop-a-preserved c).In-loop-a) refl (c.gives_of.ensures ∙ ap use_gives c.event-x.ensures),
)

pub returns : goal.returns
returns c =
    let over = c.arrays-a-end.ensures in
    record {
      versions_after = replacing_end c.loop-a.invariant.0 (omega (arith, over));
      uses_after = replacing_end c.loop-a.invariant.1 (omega (arith, over));
    }
