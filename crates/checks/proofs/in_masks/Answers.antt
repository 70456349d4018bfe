-- `in_masks` meets its contract: a row is filled in place.
use mathlib.Core.Path.{ap, ◌∙◌}
use mathlib.Core.Bool.{Bool, cond}
use Prim.Native.Nat.{ℕ}
use native.Mathlib.Omega.{arith}
use mathlib.Core.List.{List}
use lib.ListN.{get_or}
use Rattle.routine.specs.Arrays.{is_in}
use Rattle.routine.specs.Layout.{arrays}
use Rattle.routine.specs.declared.array.ArrayRecord.{ArrayRecord}
use Rattle.words.proofs.Replaced.{replaced_at, replacing_begin, replacing_next, replacing_end}
use Rattle.checks.proofs.in_masks.Goals as goal
use Rattle.checks.proofs.in_masks.Invariants.{mask}

pub loop-a-init : goal.loop-a-init
loop-a-init c = replacing_begin _ _ _ _

pub loop-a-preserved : goal.loop-a-preserved
loop-a-preserved c =
    replacing_next c.loop-a.invariant (omega (arith, c.arrays-a-end.ensures)) (omega arith)
    (c.only_if.ensures ∙ ap (λ (b : Bool). cond b 0b1000 0) (c.is_in.ensures ∙ ap (λ (r : ArrayRecord). is_in r.kind) c.array.ensures))

pub returns : goal.returns
returns c =
    let file = c.args.routine.now.bytes in
    let is = replacing_end c.loop-a.invariant (omega (arith, c.arrays-a-end.ensures)) in
    record {
      size = c.loop-a.invariant.sized;
      are = λ a h. ap (λ (t : List ℕ). get_or t a 0) is ∙ replaced_at _ 0 (mask file) 0 (arrays file) a (omega arith) h (omega (arith, c.args.routine.now.well.laid.limits.few_arrays));
    }
