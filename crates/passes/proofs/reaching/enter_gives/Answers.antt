-- `enter_gives` meets its contract: a row is replaced.
use mathlib.Core.Path.{ap, ap₂, ◌∙◌}
use mathlib.Core.Bool.{Bool, ◌||◌, cond}
use Prim.Native.Nat.{ℕ, ◌^◌}
use native.Mathlib.Omega.{arith}
use Rattle.routine.specs.Arrays.{is_in_or_inout}
use Rattle.routine.specs.declared.array.ArrayRecord.{ArrayRecord}
use Rattle.words.proofs.Replaced.{replacing_begin, replacing_next, replacing_end}
use Rattle.passes.proofs.reaching.enter_gives.Goals as goal

pub loop-a-init : goal.loop-a-init
loop-a-init c = replacing_begin _ _ _ _

pub loop-a-preserved : goal.loop-a-preserved
loop-a-preserved c =
    replacing_next c.loop-a.invariant (omega (arith, c.arrays-a-end.ensures)) (omega arith)
    (c.only_if.ensures
    ∙ ap₂ (λ (b : Bool) (x : ℕ). cond b x 0)
    (ap₂ ◌||◌ c.leaves.ensures (c.is_in_or_inout.ensures ∙ ap (λ (q : ArrayRecord). is_in_or_inout q.kind) c.array-r.ensures))
    (c.single.ensures ∙ ap (λ (q : ArrayRecord). 2 ^ q.initial) c.array-r.ensures))

pub returns : goal.returns
returns c = replacing_end c.loop-a.invariant (omega (arith, c.arrays-a-end.ensures))
