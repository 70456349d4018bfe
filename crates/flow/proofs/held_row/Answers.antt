-- `flow::held_row` meets its contract.
use mathlib.Core.Path.{◌≡◌, sym, ap, subst, ◌∙◌}
use Prim.Native.Nat.{ℕ, ◌+◌, ◌*◌, ◌≤◌}
use native.Mathlib.Omega.{arith}
use lib.ListN.{length}
use Rattle.flow.specs.Solver.{row_of}
use Rattle.flow.proofs.held_row.Goals as goal

pub returns-then-v-last : goal.returns-then-v-last
returns-then-v-last c =
    let here : c.args.v ≡ c.args.last.vertex = omega arith in
    c.requires.recent.row_is (subst (λ (v : ℕ). 8 * v + 8 ≤ length c.args.sets.now) here c.requires.v_in_bounds) ∙ ap (row_of c.args.sets.now) (sym here)
