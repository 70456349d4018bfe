-- `solver::go_on` meets its contract. The invariant: so many rounds were made, each altered a set, and every edge of a block that is not pending
-- alters none. The measure is what is left of the rounds that there can be.
use mathlib.Core.Path.{◌≡◌, sym, ap, subst, ◌∙◌}
use Prim.Native.Nat.{ℕ, ◌/◌, ◌≤◌}
use borrow.Author.Tests.{not-true, not-false}
use native.Mathlib.Omega.{arith}
use lib.ListN.{length}
use Rattle.flow.specs.Solver.{row_count}
use Rattle.flow.proofs.Rows.{tables, made_length, going_more, going_stops}
use Rattle.solver.proofs.Blocks.{round_done, closed_next, closed_all}
use Rattle.solver.proofs.go_on.Goals as goal
use Rattle.solver.proofs.go_on.Goals.{At-loop-p}

module _ (c : At-loop-p) where
  size : length c.loop-p.sets ≡ length c.args.sets.now
  size =
      let a = c.args in
      ap length c.loop-p.invariant.0.sets ∙ made_length a.edges.now a.order.now a.along a.gives.now a.passes.now (row_count a.sets.now) c.requires.order c.loop-p.done
      ∙ sym c.requires.tables.whole

pub loop-p-init : goal.loop-p-init
loop-p-init c =
    let a = c.args in
    (c.requires.going, closed_all a.edges.now a.along a.gives.now a.passes.now a.order.now a.sets.now (omega (arith, c.requires.order.all, c.requires.edges_bound)))

pub round-p-requires : goal.round-p-requires
round-p-requires c =
    let a = c.args in
    record {
      order = c.requires.order;
      edges_bound = c.requires.edges_bound;
      tables = tables a.edges.now a.gives.now a.passes.now a.sets.now c.loop-p.sets c.requires.tables (size (goal.at.round-p-requires c).At-loop-p);
      sets_in_bounds = subst (λ (n : ℕ). n / 8 ≤ length a.marks.now) (sym (size (goal.at.round-p-requires c).At-loop-p)) c.requires.sets_in_bounds;
      marked = c.requires.marked;
      closed = c.loop-p.invariant.1;
    }

pub overflow_add-done : goal.overflow_add-done
overflow_add-done c = omega (arith, c.loop-p.invariant.0.most)

pub returns-then-not-p : goal.returns-then-not-p
returns-then-not-p c =
    let a = c.args in
    going_stops a.edges.now a.order.now a.along a.gives.now a.passes.now (row_count a.sets.now) c.requires.order c.requires.tables.ends c.loop-p.sets _ _ c.loop-p.done c.loop-p.invariant.0
    (round_done a.edges.now a.along a.gives.now a.passes.now a.order.now c.round-p.ensures) (not-true _ c.if-not-p.true)

pub shape_of-sets-then-not-p : goal.shape_of-sets-then-not-p
shape_of-sets-then-not-p c = (returns-then-not-p c).size ∙ sym c.requires.tables.whole

pub loop-p-preserved : goal.loop-p-preserved
loop-p-preserved c =
    let a = c.args in (
      going_more a.edges.now a.order.now a.along a.gives.now a.passes.now (row_count a.sets.now) c.requires.order c.requires.tables.ends c.loop-p.sets _ _ c.loop-p.done c.loop-p.invariant.0
          (round_done a.edges.now a.along a.gives.now a.passes.now a.order.now c.round-p.ensures) (not-false _ c.if-not-p.false),
      closed_next a.edges.now a.along a.gives.now a.passes.now a.order.now c.round-p.ensures,
    )

pub loop-p-smaller : goal.loop-p-smaller
loop-p-smaller c = omega (arith, (loop-p-preserved c).0.most)
