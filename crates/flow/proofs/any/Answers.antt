-- `flow::any` meets its contract.
use mathlib.Core.Path.{refl, sym, ap, ◌∙◌}
use mathlib.Core.Bool.{not}
use Prim.Native.Nat.{ℕ}
use native.Mathlib.Nat.{le_antisymm}
use native.Mathlib.Numerals.{add-one}
use native.Mathlib.Omega.{arith}
use lib.Bits.{bit_or}
use lib.Dec.{eqb}
use lib.ListN.{get_or}
use Rattle.flow.specs.Solver.{in_all}
use Rattle.flow.proofs.any.Goals as goal

pub loop-a-init : goal.loop-a-init
unfolding in_all
loop-a-init c = (omega arith, refl)

pub loop-a-preserved : goal.loop-a-preserved
unfolding in_all
loop-a-preserved c = (omega arith, ap (λ (x : ℕ). bit_or x (get_or c.args.note c.loop-a.a 0)) c.loop-a.invariant.1 ∙ ap (in_all c.args.note) (sym (add-one c.loop-a.a)))

pub returns : goal.returns
returns c = ap (λ (x : ℕ). not (eqb x 0)) (c.loop-a.invariant.1 ∙ ap (in_all _) (le_antisymm c.loop-a.invariant.0 c.loop-a-test.false))
