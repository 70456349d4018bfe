-- `contents::labels_at` meets its contract. The invariant: `count` is the number of labels among the first a columns that are an array's.
use mathlib.Core.Path.{◌≡◌, ap, ◌∙◌}
use Prim.Native.Nat.{◌+◌, ◌*◌, ◌≤◌, ◌<◌, min}
use native.Mathlib.Omega.{arith}
use borrow.Author.Tests.{lt-ltb, le-ltb}
use lib.Dec.{ltb}
use lib.ListN.{get_or}
use Rattle.planbytes.specs.Plan.{labels_at}
use Rattle.planbytes.proofs.Cells.{counts_label, counts_none, counts_one, counts_few}
use Rattle.planbytes.proofs.Sizes.{none_yet, next_column, at_few}
use Rattle.labels.specs.Events.{is_label}
use Rattle.routine.specs.Layout.{arrays}
use Rattle.words.specs.Sums.{count_of}
use Rattle.words.proofs.Sums.{count_few}
use Rattle.planbytes.proofs.contents.labels_at.Goals as goal
use Rattle.planbytes.proofs.contents.labels_at.Goals.{Start}

pub loop-a-init : goal.loop-a-init
loop-a-init c = (omega arith, none_yet _ _)

pub overflow_add-count : goal.overflow_add-count
overflow_add-count c =
    let a = c.loop-a.a in
    omega (arith, count_few (λ b. is_label c.args.routine.now.bytes b c.args.v) (min a c.args.m), c.label_at-count.ensures, counts_few (get_or c.args.versions.now (8 * c.args.v + a) 0) (ltb a c.args.m))

pub loop-a-preserved : goal.loop-a-preserved
loop-a-preserved c =
    let a = c.loop-a.a in
    let m = c.args.m in
    let x = get_or c.args.versions.now (8 * c.args.v + a) 0 in (
      omega arith,
      next_column _ m a c.loop-a.invariant.1
          (λ (h : a < m).
          counts_label c.args.routine.now.bytes a c.args.v (c.requires.versions.cells a c.args.v (omega (arith, c.requires.m_value)) c.requires.v_bound) (counts_one x (lt-ltb a m h) c.label_at-count.ensures))
          (λ (h : m ≤ a). counts_none x (le-ltb a m h) c.label_at-count.ensures),
    )

pub returns : goal.returns
unfolding labels_at
returns c =
    let all : min c.loop-a.a c.args.m ≡ arrays c.args.routine.now.bytes = omega (arith, c.requires.m_value, c.args.routine.now.well.laid.limits.few_arrays, c.loop-a.invariant.0, c.loop-a-test.false) in
    let e = c.loop-a.invariant.1 ∙ ap (count_of (λ b. is_label c.args.routine.now.bytes b c.args.v)) all in
    record {
      value = e;
      upper_bound = omega (arith, at_few c.args.routine.now.bytes c.args.routine.now.well.laid c.args.v, e);
    }
