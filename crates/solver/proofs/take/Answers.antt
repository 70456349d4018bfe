-- `solver::take` meets its contract: what the note of the edge says decides which blocks are pending.
use mathlib.Core.Path.{◌≡◌, refl, sym, ap, subst, ◌∙◌}
use mathlib.Core.Bool.{Bool}
use Prim.Native.Nat.{ℕ, ◌+◌, ◌*◌, ◌^◌, ◌≤◌, ◌<◌}
use native.Mathlib.Omega.{arith}
use lib.ListN.{length, replicate}
use Rattle.flow.specs.Paths.{edge_count}
use Rattle.flow.specs.Solver.{near, far, turn, handed_row, row_count, noted, Altered}
use Rattle.flow.specs.declared.Carry.{Carry}
use Rattle.flow.proofs.Rounds.{turn_lt, near_lt}
use Rattle.flow.proofs.Rows.{recent_as, near_fits}
use Rattle.solver.proofs.Blocks.{told_by, took_none, took_some}
use Rattle.solver.proofs.take.Goals as goal
use Rattle.solver.proofs.take.Goals.{After-edge_at-i, After-relax-next}

-- the edge whose turn it is
module _ (c : After-edge_at-i) where
  turn_is : c.edge_at-i.result ≡ turn c.args.order.now c.args.along c.args.j
  turn_is = c.edge_at-i.ensures

  turn_fits : c.edge_at-i.result < edge_count c.args.edges.now
  turn_fits = subst (λ (i : ℕ). i < edge_count c.args.edges.now) (sym turn_is) (turn_lt c.requires.order c.args.along c.args.j c.requires.j_in_bounds)

pub relax-next-requires : goal.relax-next-requires
relax-next-requires c =
    record {
      tables = c.requires.tables;
      i_bound = turn_fits (goal.at.relax-next-requires c).After-edge_at-i;
      recent = recent_as c.unnoted-before.ensures c.requires.recent;
    }

-- once it is taken
module _ (c : After-relax-next) where
  near_in : near c.args.edges.now c.args.along c.edge_at-i.result < row_count c.args.sets.now
  near_in = near_lt c.requires.tables.ends c.args.along c.edge_at-i.result (turn_fits (goal.at.After-relax-next c).After-edge_at-i)

  vertex_fits : c.relax-next.result.vertex < length c.args.marks.now
  vertex_fits = omega (arith, c.relax-next.ensures.vertex_value, near_in, c.requires.sets_in_bounds)

  row_fits : 8 * near c.args.edges.now c.args.along c.edge_at-i.result + 8 ≤ length c.args.sets.now
  row_fits =
      let a = c.args in
      near_fits a.edges.now a.along a.gives.now a.passes.now a.sets.now a.sets.now c.edge_at-i.result c.requires.tables refl (turn_fits (goal.at.After-relax-next c).After-edge_at-i)

  note_is : c.relax-next.result.note ≡ noted (replicate 8 0) c.args.sets.now (near c.args.edges.now c.args.along c.edge_at-i.result)
      (handed_row c.args.gives.now c.args.passes.now c.args.sets.now (far c.args.edges.now c.args.along c.edge_at-i.result))
  note_is =
      let a = c.args in
      let i = c.edge_at-i.result in
      c.relax-next.ensures.note_value
      ∙ ap (λ (r : Carry). noted r.note a.sets.now (near a.edges.now a.along i) (handed_row a.gives.now a.passes.now a.sets.now (far a.edges.now a.along i)))
      c.unnoted-before.ensures

pub offset_bounds-marks-v : goal.offset_bounds-marks-v
offset_bounds-marks-v c =
    let small : c.relax-next.result.vertex * 8 < 2 ^ 64 = omega (arith, vertex_fits (goal.at.offset_bounds-marks-v c).After-relax-next, c.well_formed) in
    record { fits = small }

pub bounds-marks-v : goal.bounds-marks-v
bounds-marks-v c = vertex_fits (goal.at.bounds-marks-v c).After-relax-next

pub returns-then-any : goal.returns-then-any
returns-then-any c =
    let a = c.args in
    record {
      took = took_some a.edges.now a.along a.gives.now a.passes.now a.order.now a.sets.now a.j (turn_is (goal.at.returns-then-any c).After-edge_at-i) c.relax-next.ensures.sets_after a.p c.relax-next.ensures.vertex_value
          (subst (λ (b : Bool). Altered b a.sets.now c.relax-next.new.sets) c.if-any.true
          (told_by a.edges.now a.along a.gives.now a.passes.now a.sets.now c.edge_at-i.result (row_fits (goal.at.returns-then-any c).After-relax-next) (note_is (goal.at.returns-then-any c).After-relax-next) c.relax-next.ensures.sets_after c.any.ensures));
      recent_2 = c.relax-next.ensures.recent_2;
    }

pub returns : goal.returns
returns c =
    let a = c.args in
    record {
      took = took_none a.edges.now a.along a.gives.now a.passes.now a.order.now a.sets.now a.j (turn_is (goal.at.returns c).After-edge_at-i) c.relax-next.ensures.sets_after a.p
          (subst (λ (b : Bool). Altered b a.sets.now c.relax-next.new.sets) c.if-any.false
          (told_by a.edges.now a.along a.gives.now a.passes.now a.sets.now c.edge_at-i.result (row_fits (goal.at.returns c).After-relax-next) (note_is (goal.at.returns c).After-relax-next) c.relax-next.ensures.sets_after c.any.ensures));
      recent_2 = c.relax-next.ensures.recent_2;
    }
