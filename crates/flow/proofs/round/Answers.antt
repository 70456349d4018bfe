-- `flow::round` meets its contract: the loop of its direction.
use mathlib.Core.Path.{◌≡◌, sym, subst}
use mathlib.Core.Bool.{Bool}
use mathlib.Core.List.{List}
use Prim.Native.Nat.{ℕ}
use lib.ListN.{length}
use Rattle.flow.specs.Solver.{swept, relaxed_row, Advanced}
use Rattle.flow.proofs.round.Goals as goal

-- what a round in the direction taken did
turned : (right : Bool → List ℕ) {before after : List ℕ} {answer along taken : Bool} → along ≡ taken
    → Advanced (right taken) before answer after → Advanced (right along) before answer after
turned right {before} {after} {answer} e done = subst (λ (b : Bool). Advanced (right b) before answer after) (sym e) done

pub returns-then-along : goal.returns-then-along
returns-then-along c =
    let a = c.args in
    turned
    (λ (b : Bool). swept (relaxed_row a.edges.now b a.gives.now a.passes.now) a.order.now b a.sets.now (length a.order.now))
    c.if-along.true
    c.sweep.ensures

pub returns-else-along : goal.returns-else-along
returns-else-along c =
    let a = c.args in
    turned
    (λ (b : Bool). swept (relaxed_row a.edges.now b a.gives.now a.passes.now) a.order.now b a.sets.now (length a.order.now))
    c.if-along.false
    c.sweep-else-along.ensures
