-- `order::search::search` meets its contract. The invariant: every edge has its place. The measure is the steps that are left.
use mathlib.Core.Path.{sym, ◌∙◌}
use native.Mathlib.Omega.{arith}
use Rattle.order.proofs.search.search.Goals as goal

pub after-v-requires : goal.after-v-requires
after-v-requires c = c.loop-step.invariant.0.most

pub settle-slot-requires : goal.settle-slot-requires
settle-slot-requires c =
    record {
      placed = c.loop-step.invariant.0;
      slot_bound = c.loop-step.invariant.1;
    }

pub shape_of-order-then-slot-eq0 : goal.shape_of-order-then-slot-eq0
shape_of-order-then-slot-eq0 c = c.settle-slot.ensures.placed_2.all ∙ sym c.requires.all

pub shape_of-place-then-slot-eq0 : goal.shape_of-place-then-slot-eq0
shape_of-place-then-slot-eq0 c = c.settle-slot.ensures.placed_2.room ∙ sym c.requires.room

pub returns-then-slot-eq0 : goal.returns-then-slot-eq0
returns-then-slot-eq0 c = c.settle-slot.ensures.placed_2

pub loop-step-preserved : goal.loop-step-preserved
loop-step-preserved c = (c.settle-slot.ensures.placed_2, c.settle-slot.ensures.upper_bound, omega (arith, c.loop-step-test.true))

pub shape_of-order : goal.shape_of-order
shape_of-order c = c.loop-step.invariant.0.all ∙ sym c.requires.all

pub shape_of-place : goal.shape_of-place
shape_of-place c = c.loop-step.invariant.0.room ∙ sym c.requires.room

pub returns : goal.returns
returns c = c.loop-step.invariant.0
