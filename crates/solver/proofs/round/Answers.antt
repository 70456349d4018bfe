-- `solver::round` meets its contract. The invariant: the turns before block b were taken, or alter nothing. The measure is what is left of the blocks.
use mathlib.Core.Path.{◌≡◌, refl, sym, subst, ◌∙◌}
use mathlib.Core.Bool.{false}
use Prim.Native.Nat.{ℕ, ◌/◌, ◌≤◌}
use native.Mathlib.Omega.{arith}
use lib.ListN.{length}
use Rattle.flow.proofs.Rows.{tables}
use Rattle.solver.specs.Blocks.{block_start, Taken}
use Rattle.solver.proofs.Blocks.{skipped, round_none}
use Rattle.solver.proofs.round.Goals as goal

pub loop-b-init : goal.loop-b-init
loop-b-init c =
    let a = c.args in
    let n = length a.order.now in
    let none : 0 ≡ block_start n 0 = omega arith in (
      c.next_pending-b.ensures.most,
      refl,
      skipped a.edges.now a.along a.gives.now a.passes.now c.requires.order a.sets.now
          (subst (λ (x : ℕ). Taken a.edges.now a.order.now a.along a.gives.now a.passes.now a.sets.now x x a.sets.now (record { pending = a.pending; altered = false })) none
          (round_none a.edges.now a.along a.gives.now a.passes.now a.order.now a.sets.now a.pending c.requires.closed))
          c.next_pending-b.ensures,
    )

pub take_block-q-requires : goal.take_block-q-requires
take_block-q-requires c =
    let a = c.args in
    record {
      order = c.requires.order;
      tables = tables a.edges.now a.gives.now a.passes.now a.sets.now c.loop-b.sets c.requires.tables c.loop-b.invariant.1;
      sets_in_bounds = subst (λ (n : ℕ). n / 8 ≤ length a.marks.now) (sym c.loop-b.invariant.1) c.requires.sets_in_bounds;
      marked = c.requires.marked;
      b_bound = c.loop-b-test.true;
    }

pub overflow_add-b : goal.overflow_add-b
overflow_add-b c = omega (arith, c.loop-b.invariant.0)

pub next_pending-b-requires-in-loop-b : goal.next_pending-b-requires-in-loop-b
next_pending-b-requires-in-loop-b c = omega (arith, c.loop-b-test.true)

pub loop-b-smaller : goal.loop-b-smaller
loop-b-smaller c = omega (arith, c.loop-b-test.true, c.next_pending-b-in-loop-b.ensures.onward)

pub loop-b-preserved : goal.loop-b-preserved
loop-b-preserved c =
    let a = c.args in (
      c.next_pending-b-in-loop-b.ensures.most,
      c.take_block-q.ensures.size ∙ c.loop-b.invariant.1,
      skipped a.edges.now a.along a.gives.now a.passes.now c.requires.order a.sets.now (c.take_block-q.ensures.goes a.sets.now c.loop-b.invariant.2) c.next_pending-b-in-loop-b.ensures,
    )

pub shape_of-sets : goal.shape_of-sets
shape_of-sets c = c.loop-b.invariant.1

pub returns : goal.returns
returns c =
    let a = c.args in
    let n = length a.order.now in
    let all : block_start n c.loop-b.b ≡ n = omega (arith, c.loop-b-test.false, c.requires.order.all, c.requires.edges_bound) in
    subst (λ (x : ℕ). Taken a.edges.now a.order.now a.along a.gives.now a.passes.now a.sets.now x x c.loop-b.sets c.loop-b.p) all c.loop-b.invariant.2
