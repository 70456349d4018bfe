-- `references_at` meets its contract: the invariant counts the references to the arrays passed.
use mathlib.Core.Path.{◌≡◌, ap, ◌∙◌}
use Prim.Native.Nat.{◌+◌}
use native.Mathlib.Omega.{arith}
use Rattle.routine.specs.Layout.{arrays}
use Rattle.labels.specs.Events.{event}
use Rattle.routine.specs.Actions.{is_reference}
use Rattle.words.specs.Sums.{count_of}
use Rattle.words.proofs.Sums.{total_none, total_more, count_few}
use Rattle.report.proofs.references_at.Goals as goal
use Rattle.report.proofs.references_at.Goals.{After-reference_at-count}

pub loop-a-init : goal.loop-a-init
loop-a-init c = (omega arith, total_none _)

-- with the array of this turn
counted : (c : After-reference_at-count) →
    let a = c.args in
    c.loop-a.count + c.reference_at-count.result ≡ count_of (λ b. is_reference (event a.routine.now.bytes b a.v)) (c.loop-a.a + 1)
counted c = total_more _ _ c.loop-a.invariant.1 c.reference_at-count.ensures

pub overflow_add-count : goal.overflow_add-count
overflow_add-count c =
    let a = c.args in
    omega (arith, counted c, count_few (λ b. is_reference (event a.routine.now.bytes b a.v)) (c.loop-a.a + 1))

pub loop-a-preserved : goal.loop-a-preserved
loop-a-preserved c = (omega arith, counted c)

pub returns : goal.returns
returns c =
    let a = c.args in
    let all : c.loop-a.a ≡ arrays a.routine.now.bytes = omega arith in
    let e = c.loop-a.invariant.1 ∙ ap (count_of (λ b. is_reference (event a.routine.now.bytes b a.v))) all in
    record {
      value = e;
      upper_bound = omega (arith, count_few (λ b. is_reference (event a.routine.now.bytes b a.v)) (arrays a.routine.now.bytes));
    }
