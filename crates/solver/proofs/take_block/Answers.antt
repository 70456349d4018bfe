-- `solver::take_block` meets its contract. The invariant: the turns from the start of the block up to j were taken. The measure is what is left of the block.
use mathlib.Core.Path.{refl, sym, ap, subst, ◌∙◌}
use Prim.Native.Nat.{ℕ, ◌/◌, ◌≤◌, ◌<◌}
use native.Mathlib.Omega.{arith}
use lib.ListN.{length}
use Rattle.flow.specs.Solver.{turn, Tables}
use Rattle.flow.specs.declared.Carry.{Carry}
use Rattle.flow.proofs.Rows.{recent_none, step_length, tables}
use Rattle.solver.proofs.Blocks.{took, block_done}
use Rattle.solver.proofs.take_block.Goals as goal
use Rattle.solver.proofs.take_block.Goals.{At-loop-j}

module _ (c : At-loop-j) where
  held : Tables c.args.edges.now c.args.gives.now c.args.passes.now c.loop-j.sets
  held = tables c.args.edges.now c.args.gives.now c.args.passes.now c.args.sets.now c.loop-j.sets c.requires.tables c.loop-j.invariant.0

  due : c.loop-j.j < c.start-to.result → c.loop-j.j < length c.args.order.now
  due h = omega (arith, c.start-to.ensures)

pub start-from-requires : goal.start-from-requires
start-from-requires c = omega (arith, c.requires.b_bound)

pub overflow_add-b : goal.overflow_add-b
overflow_add-b c = omega (arith, c.requires.b_bound)

pub start-to-requires : goal.start-to-requires
start-to-requires c = omega (arith, c.requires.b_bound)

pub without-requires : goal.without-requires
without-requires c = c.requires.b_bound

pub loop-j-init : goal.loop-j-init
loop-j-init c = (refl, omega (arith, c.start-from.ensures, c.start-to.ensures), λ old w. w, recent_none _ (ap (λ (r : Carry). r.vertex) c.untouched-last.ensures))

pub take-next-requires : goal.take-next-requires
take-next-requires c =
    record {
      order = c.requires.order;
      tables = held (goal.at.take-next-requires c).At-loop-j;
      sets_in_bounds = subst (λ (n : ℕ). n / 8 ≤ length c.args.marks.now) (sym c.loop-j.invariant.0) c.requires.sets_in_bounds;
      j_in_bounds = due (goal.at.take-next-requires c).At-loop-j c.loop-j-test.true;
      recent = c.loop-j.invariant.3;
    }

pub loop-j-preserved : goal.loop-j-preserved
loop-j-preserved c =
    let a = c.args in
    let j-due = c.loop-j-test.true in (
      ap length c.take-next.ensures.took.sets ∙ step_length a.edges.now a.along a.gives.now a.passes.now c.loop-j.sets (turn a.order.now a.along c.loop-j.j) ∙ c.loop-j.invariant.0,
      omega (arith, j-due),
      λ old w. took a.edges.now a.along a.gives.now a.passes.now c.requires.order old (held (goal.at.loop-j-preserved c).At-loop-j) c.requires.marked (c.loop-j.invariant.2 old w) (due (goal.at.loop-j-preserved c).At-loop-j j-due) c.take-next.ensures.took,
      c.take-next.ensures.recent_2,
    )

pub shape_of-sets : goal.shape_of-sets
shape_of-sets c = c.loop-j.invariant.0

pub returns : goal.returns
returns c =
    let a = c.args in
    block_done a.edges.now a.along a.gives.now a.passes.now c.requires.order c.start-from.ensures c.start-to.ensures
    (ap (λ (m : ℕ). record { pending = m; altered = a.p.altered }) c.without.ensures)
    (omega (arith, c.loop-j.invariant.1, c.loop-j-test.false)) c.loop-j.invariant.0 c.loop-j.invariant.2
