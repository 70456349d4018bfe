-- `walk::remaps` meets its contract. The loop's invariant: no action so far is a remapping.
use mathlib.Core.Path.{◌≡◌, sym, ap, ◌∙◌}
use mathlib.Core.Bool.{false}
use Prim.Native.Nat.{◌<◌}
use native.Mathlib.Omega.{arith}
use borrow.Author.Count.{below_more}
use Rattle.routine.specs.Actions.{action, is_reference, is_remap}
use Rattle.routine.specs.Layout.{arrays}
use Rattle.walk.proofs.Sorts.{after_reference, after_remap}
use Rattle.walk.proofs.remaps.Goals as goal
use Rattle.walk.proofs.remaps.Goals.{In-loop-a}

-- what holds in a turn
module _ (c : In-loop-a) where
  in_a : c.loop-a.a < arrays c.args.routine.now.bytes
  in_a = omega (arith, c.arrays-a-end.ensures)

pub loop-a-init : goal.loop-a-init
loop-a-init c = (omega arith, λ b h. absurd (omega arith))

pub action-x-requires : goal.action-x-requires
action-x-requires c =
    record {
      v_bound = c.requires.v_bound;
      a_bound = in_a c;
    }

pub returns-then-reference : goal.returns-then-reference
returns-then-reference c =
    let is = ap is_reference (sym c.action-x.ensures) ∙ sym c.is_reference-reference.ensures ∙ c.if-reference.true in
    after_reference c.args.routine.now.well c.args.v c.requires.v_bound (in_a (goal.at.returns-then-reference c).In-loop-a) is

pub returns-then-remap : goal.returns-then-remap
returns-then-remap c =
    let is = ap is_remap (sym c.action-x.ensures) ∙ sym c.is_remap-remap.ensures ∙ c.if-remap.true in
    after_remap c.args.routine.now.well c.args.v c.requires.v_bound (in_a (goal.at.returns-then-remap c).In-loop-a) is

pub loop-a-preserved : goal.loop-a-preserved
loop-a-preserved c =
    let is = ap is_remap (sym c.action-x.ensures) ∙ sym c.is_remap-remap.ensures ∙ c.if-remap.false in
    (omega arith, below_more (λ b. is_remap (action c.args.routine.now.bytes b c.args.v) ≡ false) c.loop-a.a c.loop-a.invariant.1 is)

pub returns : goal.returns
returns c = λ b in_b. c.loop-a.invariant.1 b (omega (arith, c.arrays-a-end.ensures))
