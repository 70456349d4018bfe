-- `references_on` meets its contract: the invariant counts the references at the vertices passed.
use mathlib.Core.Path.{◌≡◌, ap, ◌∙◌}
use mathlib.Core.List.{List}
use Prim.Native.Nat.{ℕ, ◌+◌, ◌≤◌, ◌<◌}
use native.Mathlib.Omega.{arith}
use lib.ListN.{length, get_or}
use Rattle.routine.specs.Layout.{vertices}
use Rattle.words.specs.Tables.{table}
use Rattle.words.proofs.Tables.{table_at, table-length}
use Rattle.path.specs.Paths.{steps}
use Rattle.report.specs.References.{references_at}
use Rattle.walk.specs.Report.{references_on}
use Rattle.walk.proofs.Bytes.{on_none, on_more, on_few}
use Rattle.path.proofs.Paths.{walk, within-vertices}
use Rattle.walk.proofs.references_on.Goals as goal
use Rattle.walk.proofs.references_on.Goals.{After-shared_slice_known-in-loop-i-1, After-vertex, Start}

pub loop-i-init : goal.loop-i-init
loop-i-init c = (omega arith, on_none _ _)

-- the vertex of this turn
within : (c : After-vertex) → c.vertex.result < vertices c.args.routine.now.bytes
within c =
    omega (arith, within-vertices c.args.routine.now.well (walk c.args.routine.now.well c.requires.path_checked) c.loop-i.i (omega arith))

table_is : (c : Start) → c.args.counts.now ≡ table (references_at c.args.routine.now.bytes) (vertices c.args.routine.now.bytes)
table_is c = c.requires.references_counted

-- with its references
more : (c : After-shared_slice_known-in-loop-i-1) →
    let a = c.args in
    c.loop-i.count + get_or a.counts.now c.vertex.result 0 ≡ references_on a.routine.now.bytes a.path.now (c.loop-i.i + 1)
more c =
    let f = references_at c.args.routine.now.bytes in
    on_more _ _ _ c.loop-i.invariant.1
    (ap (λ (t : List ℕ). get_or t c.vertex.result 0) (table_is (goal.at.After-shared_slice_known-in-loop-i-1 c).Start) ∙ table_at f _ _ (within (goal.at.After-shared_slice_known-in-loop-i-1 c).After-vertex) ∙ ap f c.vertex.ensures)

-- at most eight at each of at most 4,096 vertices
few : (c : Start) (n : ℕ) → n ≤ steps c.args.path.now → references_on c.args.routine.now.bytes c.args.path.now n ≤ 32768
few c n h =
    omega (arith, on_few c.args.routine.now.bytes c.args.path.now c.args.routine.now.well.laid.limits.few_arrays n, walk c.args.routine.now.well c.requires.path_checked)

pub bounds-counts-vertex : goal.bounds-counts-vertex
bounds-counts-vertex c = omega (arith, within (goal.at.bounds-counts-vertex c).After-vertex, ap length (table_is (goal.at.bounds-counts-vertex c).Start), table-length (references_at c.args.routine.now.bytes) (vertices c.args.routine.now.bytes))

pub overflow_cast-count : goal.overflow_cast-count
overflow_cast-count c = omega (arith, c.type_inv.counts c.vertex.result)

pub overflow_add-count : goal.overflow_add-count
overflow_add-count c = omega (arith, more c, few (goal.at.overflow_add-count c).Start (c.loop-i.i + 1) (omega arith))

pub loop-i-preserved : goal.loop-i-preserved
loop-i-preserved c = (omega arith, more c)

pub returns : goal.returns
returns c =
    let a = c.args in
    let all : c.loop-i.i ≡ steps a.path.now = omega arith in
    let e = c.loop-i.invariant.1 ∙ ap (references_on a.routine.now.bytes a.path.now) all in
    record {
      value = e;
      upper_bound = omega (arith, few (goal.at.returns c).Start (steps a.path.now) (omega arith));
    }
