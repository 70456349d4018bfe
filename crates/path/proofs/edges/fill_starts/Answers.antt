-- `edges::fill_starts` meets its contract. The invariant: `at` is where the edges from v start, and the table is filled in for each vertex
-- before v.
use mathlib.Core.Path.{◌≡◌, subst}
use Prim.Native.Nat.{ℕ, ◌≤◌, ◌<◌}
use native.Mathlib.Omega.{arith}
use lib.ListN.{length, set, length-set}
use Rattle.routine.specs.Layout.{vertices}
use Rattle.path.specs.Places.{RowStart}
use Rattle.path.proofs.Places.{first_start, StartsTo, starts_begin, starts_next}
use Rattle.path.proofs.edges.fill_starts.Goals as goal
use Rattle.path.proofs.edges.fill_starts.Goals.{At-loop-v, In-loop-v}

-- ---- at each turn

few : (c : At-loop-v) → c.loop-v.at ≤ 1192
few c = omega (arith, c.loop-v.invariant.1.within, c.args.routine.now.well.laid.limits.few_edges)

within : (c : In-loop-v) → c.loop-v.v < vertices c.args.routine.now.bytes
within c = omega (arith, c.vertices-n.ensures)

pub loop-v-init : goal.loop-v-init
loop-v-init c = (omega arith, first_start _, starts_begin _ _)

pub overflow_cast-starts : goal.overflow_cast-starts
overflow_cast-starts c = omega (arith, few (goal.at.overflow_cast-starts c).At-loop-v)

pub offset_bounds-starts-v : goal.offset_bounds-starts-v
offset_bounds-starts-v c = omega (arith, within c, c.args.routine.now.well.laid.limits.few_vertices)

pub bounds-starts-v : goal.bounds-starts-v
bounds-starts-v c = omega (arith, within c, c.requires.file_in_bounds, c.loop-v.invariant.2.sized)

pub row_end-at-requires : goal.row_end-at-requires
row_end-at-requires c =
    record {
      row_start = c.loop-v.invariant.1;
    }

pub loop-v-preserved : goal.loop-v-preserved
loop-v-preserved c =
    let t = c.loop-v.invariant in
    (omega arith, c.row_end-at.ensures, starts_next t.2 (omega (arith, within (goal.at.loop-v-preserved c).In-loop-v, c.requires.file_in_bounds)) t.1)

-- ---- at the end
pub overflow_cast-starts-2 : goal.overflow_cast-starts-2
overflow_cast-starts-2 c = omega (arith, few (goal.at.overflow_cast-starts-2 c).At-loop-v)

pub offset_bounds-starts-n : goal.offset_bounds-starts-n
offset_bounds-starts-n c = omega (arith, c.vertices-n.ensures, c.args.routine.now.well.laid.limits.few_vertices)

pub bounds-starts-n : goal.bounds-starts-n
bounds-starts-n c = omega (arith, c.vertices-n.ensures, c.requires.file_in_bounds, c.loop-v.invariant.2.sized)

pub shape_of-starts : goal.shape_of-starts
shape_of-starts c = let e : length (set c.loop-v.starts c.vertices-n.result c.loop-v.at) ≡ length c.args.starts.now = simp length-set c.loop-v.invariant.2.sized in e

pub returns : goal.returns
returns c =
    let is = c.vertices-n.ensures in
    let end : c.loop-v.v ≡ c.vertices-n.result = omega (arith, c.loop-v.invariant.0, c.loop-v-test.false) in
    let done = starts_next (subst (StartsTo c.args.routine.now.bytes c.args.starts.now c.loop-v.starts) end c.loop-v.invariant.2) (omega (arith, is, c.requires.file_in_bounds)) (subst (λ (v : ℕ). RowStart c.args.routine.now.bytes v c.loop-v.at) end c.loop-v.invariant.1) in
    record { room = omega (arith, c.requires.file_in_bounds, done.sized); are = λ v h. done.are v (omega (arith, is)) }
