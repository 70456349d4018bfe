-- `solver::solve` meets its contract. The invariant: r rounds were made, and each altered a set.
use mathlib.Core.Path.{◌≡◌, sym, ap, subst, ◌∙◌}
use Prim.Native.Nat.{ℕ, ◌+◌, ◌*◌, ◌/◌, ◌≤◌}
use native.Mathlib.Omega.{arith}
use lib.ListN.{length, replicate, length-replicate}
use Rattle.flow.specs.Solver.{Ends, Tables, Going, Solved, row_count}
use Rattle.flow.proofs.Rows.{going_none, going_more, going_stops, made_length, tables}
use Rattle.solver.proofs.solve.Goals as goal
use Rattle.solver.proofs.solve.Goals.{After-fill, At-loop-r}

cleared : (c : After-fill) → c.fill.new.self ≡ replicate (length c.args.sets.now) 0
cleared c = c.fill.ensures.after (λ y e. e)

-- there are as many sets as before they were cleared
size : (c : After-fill) → length c.fill.new.self ≡ length c.args.sets.now
size c = ap length (cleared c) ∙ length-replicate _ 0

module _ (c : At-loop-r) where
  abbrev n : ℕ
  n = row_count c.fill.new.self

  rows_same : n ≡ row_count c.args.sets.now
  rows_same = ap (λ (x : ℕ). x / 8) (size (goal.at.At-loop-r c).After-fill)

  -- the edges end among the vertices
  within : Ends c.args.edges.now n
  within = subst (Ends c.args.edges.now) (sym rows_same) c.requires.tables.ends

  -- the rounds keep their number
  kept : length c.loop-r.sets ≡ length c.args.sets.now
  kept =
      let a = c.args in
      ap length c.loop-r.invariant.sets ∙ made_length a.edges.now a.order.now a.along a.gives.now a.passes.now n c.requires.order c.loop-r.r
      ∙ ap (λ (x : ℕ). 8 * x) rows_same ∙ sym c.requires.tables.whole

  held : Tables c.args.edges.now c.args.gives.now c.args.passes.now c.loop-r.sets
  held = tables _ _ _ c.args.sets.now _ c.requires.tables kept

pub loop-r-init : goal.loop-r-init
loop-r-init c =
    let whole : length c.args.sets.now ≡ 8 * row_count c.fill.new.self = c.requires.tables.whole ∙ ap (λ (x : ℕ). 8 * (x / 8)) (sym (size (goal.at.loop-r-init c).After-fill)) in
    going_none c.args.edges.now c.args.order.now c.args.along c.args.gives.now c.args.passes.now _ _ (cleared (goal.at.loop-r-init c).After-fill ∙ ap (λ (x : ℕ). replicate x 0) whole)

pub round-requires : goal.round-requires
round-requires c =
    record {
      order = c.requires.order;
      tables = held (goal.at.round-requires c).At-loop-r;
    }

pub overflow_add-result : goal.overflow_add-result
overflow_add-result c = omega (arith, c.loop-r-test.true)

pub returns-then-not-round : goal.returns-then-not-round
returns-then-not-round c =
    let a = c.args in
    subst (λ (m : ℕ). Solved a.edges.now a.order.now a.along a.gives.now a.passes.now m (c.loop-r.r + 1) c.round.new.sets) (rows_same (goal.at.returns-then-not-round c).At-loop-r)
    (going_stops a.edges.now a.order.now a.along a.gives.now a.passes.now (n (goal.at.returns-then-not-round c).At-loop-r) c.requires.order (within (goal.at.returns-then-not-round c).At-loop-r) c.loop-r.sets _ _ c.loop-r.r c.loop-r.invariant c.round.ensures (c.if-not-round.true))

pub shape_of-sets-then-not-round : goal.shape_of-sets-then-not-round
shape_of-sets-then-not-round c = (returns-then-not-round c).size ∙ sym c.requires.tables.whole

pub loop-r-preserved : goal.loop-r-preserved
loop-r-preserved c =
    let a = c.args in
    going_more a.edges.now a.order.now a.along a.gives.now a.passes.now (n (goal.at.loop-r-preserved c).At-loop-r) c.requires.order (within (goal.at.loop-r-preserved c).At-loop-r) c.loop-r.sets _ _ c.loop-r.r c.loop-r.invariant c.round.ensures (c.if-not-round.false)

pub go_on_marked-requires : goal.go_on_marked-requires
go_on_marked-requires c =
    let same : n (goal.at.go_on_marked-requires c).At-loop-r ≡ row_count c.loop-r.sets = rows_same (goal.at.go_on_marked-requires c).At-loop-r ∙ ap (λ (x : ℕ). x / 8) (sym (kept (goal.at.go_on_marked-requires c).At-loop-r)) in
    let whole : c.loop-r.r ≡ 3 = omega arith in
    record {
      order = c.requires.order;
      edges_bound = c.requires.edges_bound;
      tables = held (goal.at.go_on_marked-requires c).At-loop-r;
      sets_bound = subst (λ (x : ℕ). x / 8 ≤ 256) (sym (kept (goal.at.go_on_marked-requires c).At-loop-r)) c.requires.sets_bound;
      going =
          subst (λ (r : ℕ). Going c.args.edges.now c.args.order.now c.args.along c.args.gives.now c.args.passes.now (row_count c.loop-r.sets) c.loop-r.sets r) whole
          (subst (λ (m : ℕ). Going c.args.edges.now c.args.order.now c.args.along c.args.gives.now c.args.passes.now m c.loop-r.sets c.loop-r.r) same c.loop-r.invariant);
    }

pub returns : goal.returns
returns c =
    let a = c.args in
    subst (λ (m : ℕ). Solved a.edges.now a.order.now a.along a.gives.now a.passes.now m c.go_on_marked.result c.go_on_marked.new.sets) (ap (λ (m : ℕ). m / 8) (kept (goal.at.returns c).At-loop-r)) c.go_on_marked.ensures

pub shape_of-sets : goal.shape_of-sets
shape_of-sets c = (returns c).size ∙ sym c.requires.tables.whole
