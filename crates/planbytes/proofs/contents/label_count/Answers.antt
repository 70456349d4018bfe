-- `contents::label_count` meets its contract. The invariant: `count` is the number of labels of the vertices before v, and the index of the first label
-- is filled in for each of these.
use mathlib.Core.Path.{◌≡◌, refl, ap, ◌∙◌}
use Prim.Native.Nat.{◌≤◌}
use native.Mathlib.Omega.{arith}
use Rattle.planbytes.specs.Plan.{labels_before, label_count}
use Rattle.planbytes.proofs.Sizes.{before_more, before_few, firsts_done}
use Rattle.words.proofs.Filling.{fill_begin, fill_next}
use Rattle.planbytes.proofs.contents.label_count.Goals as goal
use Rattle.planbytes.proofs.contents.label_count.Goals.{At-loop-v}

-- ---- at each turn

few : (c : At-loop-v) → c.loop-v.count ≤ 2048
few c =
    omega (arith, before_few c.args.routine.now.bytes c.args.routine.now.well.laid c.loop-v.v, c.loop-v.invariant.0, c.loop-v.invariant.1, c.vertices-n.ensures, c.args.routine.now.well.laid.limits.few_vertices)

pub loop-v-init : goal.loop-v-init
unfolding labels_before
loop-v-init c = (omega arith, refl, fill_begin _ refl)

pub overflow_cast-firsts : goal.overflow_cast-firsts
overflow_cast-firsts c = omega (arith, few (goal.at.overflow_cast-firsts c).At-loop-v)

pub overflow_add-count : goal.overflow_add-count
overflow_add-count c = omega (arith, few (goal.at.overflow_add-count c).At-loop-v, c.labels_at-count.ensures.upper_bound)

pub loop-v-preserved : goal.loop-v-preserved
loop-v-preserved c =
    let t = c.loop-v.invariant in (
      omega arith,
      before_more c.args.routine.now.bytes c.loop-v.v t.1 c.labels_at-count.ensures.value,
      fill_next t.2 (omega (arith, c.loop-v-test.true, c.vertices-n.ensures, c.requires.file_in_bounds)) t.1,
    )

-- ---- at the end
pub overflow_cast-firsts-2 : goal.overflow_cast-firsts-2
overflow_cast-firsts-2 c = omega (arith, few (goal.at.overflow_cast-firsts-2 c).At-loop-v)

pub returns : goal.returns
unfolding label_count
returns c =
    let is = c.vertices-n.ensures in
    let end : c.loop-v.v ≡ c.vertices-n.result = omega (arith, c.loop-v.invariant.0, c.loop-v-test.false) in
    record {
      firsts = firsts_done c.args.routine.now.bytes c.loop-v.invariant.2 end is c.requires.file_in_bounds c.loop-v.invariant.1;
      value = c.loop-v.invariant.1 ∙ ap (labels_before c.args.routine.now.bytes) (end ∙ is);
      upper_bound = few (goal.at.returns c).At-loop-v;
    }
