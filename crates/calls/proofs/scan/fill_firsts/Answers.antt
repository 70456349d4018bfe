-- `scan::fill_firsts` meets its contract. The invariant: `count` is the first of the vertices that v becomes, and the table is filled in for
-- each vertex before v. The measure is what is left.
use mathlib.Core.Path.{◌≡◌, refl, sym, ap, ap₂, subst, ◌∙◌}
use Prim.Native.Nat.{◌+◌, ◌≤◌, ◌<◌}
use native.Mathlib.Numerals.{add-one}
use native.Mathlib.Omega.{arith}
use lib.ListN.{length, set, length-set}
use Rattle.routine.specs.Layout.{vertices}
use Rattle.words.proofs.Filling.{Filling, fill_begin, fill_length, fill_next, fill_at}
use Rattle.calls.specs.Parts.{first_vertex_of}
use Rattle.calls.proofs.Parts.{first_zero, first_parts, first_few, size_is}
use Rattle.calls.proofs.scan.fill_firsts.Goals as goal
use Rattle.calls.proofs.scan.fill_firsts.Goals.{After-size-count, At-loop-v, In-loop-v}

-- ---- at each turn

few : (c : At-loop-v) → c.loop-v.count ≤ 768
few c =
    omega (arith, first_few c.args.routine.now.bytes c.loop-v.v, c.loop-v.invariant.0, c.loop-v.invariant.1, c.vertices-n.ensures, c.args.routine.now.well.laid.limits.few_vertices)

within : (c : In-loop-v) → c.loop-v.v < vertices c.args.routine.now.bytes
within c = omega (arith, c.vertices-n.ensures)

pub loop-v-init : goal.loop-v-init
loop-v-init c = (omega arith, sym (first_zero _), fill_begin _ refl)

pub overflow_cast-firsts : goal.overflow_cast-firsts
overflow_cast-firsts c = omega (arith, few (goal.at.overflow_cast-firsts c).At-loop-v)

pub offset_bounds-firsts-v : goal.offset_bounds-firsts-v
offset_bounds-firsts-v c = omega (arith, within c, c.args.routine.now.well.laid.limits.few_vertices)

pub bounds-firsts-v : goal.bounds-firsts-v
bounds-firsts-v c = omega (arith, within c, c.requires, fill_length c.loop-v.invariant.2)

pub size-count-requires : goal.size-count-requires
size-count-requires c =
    within c

-- what stands in `count` at the end of the turn
counted : (c : After-size-count) →
    c.loop-v.count + c.size-count.result ≡ first_vertex_of c.args.routine.now.bytes (c.loop-v.v + 1)
counted c =
    let file = c.args.routine.now.bytes in
    ap₂ ◌+◌ c.loop-v.invariant.1 c.size-count.ensures ∙ sym (first_parts file c.loop-v.v) ∙ ap (first_vertex_of file) (sym (add-one c.loop-v.v))

pub overflow_add-count : goal.overflow_add-count
overflow_add-count c = omega (arith, counted c, first_few c.args.routine.now.bytes (c.loop-v.v + 1), within (goal.at.overflow_add-count c).In-loop-v, c.args.routine.now.well.laid.limits.few_vertices)

pub loop-v-preserved : goal.loop-v-preserved
loop-v-preserved c =
    let t = c.loop-v.invariant in
    (omega arith, counted c, fill_next t.2 (omega (arith, within (goal.at.loop-v-preserved c).In-loop-v, c.requires)) t.1)

-- ---- at the end
pub overflow_cast-firsts-2 : goal.overflow_cast-firsts-2
overflow_cast-firsts-2 c = omega (arith, few (goal.at.overflow_cast-firsts-2 c).At-loop-v)

pub offset_bounds-firsts-n : goal.offset_bounds-firsts-n
offset_bounds-firsts-n c = omega (arith, c.vertices-n.ensures, c.args.routine.now.well.laid.limits.few_vertices)

pub bounds-firsts-n : goal.bounds-firsts-n
bounds-firsts-n c = omega (arith, c.vertices-n.ensures, c.requires, fill_length c.loop-v.invariant.2)

pub shape_of-firsts : goal.shape_of-firsts
shape_of-firsts c = let e : length (set c.loop-v.firsts c.vertices-n.result c.loop-v.count) ≡ length c.args.firsts.now = simp length-set (fill_length c.loop-v.invariant.2) in e

pub returns : goal.returns
returns c =
    let file = c.args.routine.now.bytes in
    let is = c.vertices-n.ensures in
    let end : c.loop-v.v ≡ c.vertices-n.result = omega (arith, c.loop-v.invariant.0, c.loop-v-test.false) in
    let counted : c.loop-v.count ≡ first_vertex_of file c.vertices-n.result = c.loop-v.invariant.1 ∙ ap (first_vertex_of file) end in
    let done = fill_next (subst (Filling (first_vertex_of file) (length c.args.firsts.now) c.args.firsts.now c.loop-v.firsts) end c.loop-v.invariant.2) (omega (arith, is, c.requires)) counted in
    record {
      firsts = record { room = omega (arith, c.requires, fill_length done); are = λ v h. fill_at done v (omega (arith, is)) };
      value = counted ∙ ap (first_vertex_of file) is ∙ sym (size_is file);
    }
