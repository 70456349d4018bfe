-- `reached::is_reached` meets its contract: any column of the row tells.
use mathlib.Core.Path.{sym, ap, ◌∙◌}
use mathlib.Core.Bool.{Bool, ◌||◌}
use Prim.Native.Nat.{ℕ, ◌*◌}
use native.Mathlib.Nat.{add-zero}
use native.Mathlib.Omega.{arith}
use lib.Dec.{eqb}
use lib.ListN.{get_or}
use Rattle.labels.specs.Reaching.{is_reached_over}
use Rattle.sets.specs.Sets.{has}
use Rattle.facts.proofs.reached.is_reached.Goals as goal

pub overflow_cast-reached : goal.overflow_cast-reached
overflow_cast-reached c = omega (arith, c.type_inv.reached (8 * c.args.v))

pub returns : goal.returns
unfolding is_reached_over
returns c =
    let v = c.args.v in
    let first = ap (λ (i : ℕ). get_or c.args.reached.now i 0) (sym (add-zero (8 * v))) in
    ap (λ (b : Bool). eqb v 0 || b) (c.member.ensures ∙ ap (λ (set : ℕ). has set 0) (first ∙ c.requires.reached.cells 0 v (omega arith) c.requires.v_bound))
