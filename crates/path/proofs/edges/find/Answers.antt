-- `edges::find` meets its contract. The invariant: `size` edges from `low` on leave v, and an edge from v to w is one of them. The measure is
-- their number.
use mathlib.Core.Path.{sym, ap, subst}
use Prim.Native.Nat.{ℕ, ◌+◌, ◌-◌, ◌/◌, ◌≤◌, ◌<◌}
use native.Mathlib.Omega.{arith}
use lib.ListN.{get_or}
use Rattle.routine.specs.declared.edge.Edge.{Edge}
use Rattle.routine.specs.Layout.{vertices}
use Rattle.path.proofs.Places.{starts_rise, Among, among_row, among_half, none_left, other_left, one_left, outside}
use Rattle.path.proofs.edges.find.Goals as goal
use Rattle.path.proofs.edges.find.Goals.{Else-v-vertices}

pub returns-then-v-vertices : goal.returns-then-v-vertices
returns-then-v-vertices c = outside c.args.routine.now.well c.args.v c.args.w (omega (arith, c.vertices.ensures))

-- ---- the edges from v
-- v is a vertex

within : (c : Else-v-vertices) → c.args.v < vertices c.args.routine.now.bytes
within c = omega (arith, c.vertices.ensures)

small : (c : Else-v-vertices) → c.args.v < 256
small c = omega (arith, within c, c.args.routine.now.well.laid.limits.few_vertices)

-- its edges start at a small number
row : (c : Else-v-vertices) (v : ℕ) → v ≤ vertices c.args.routine.now.bytes → get_or c.args.starts.now v 0 ≤ 1192
row c v h = omega (arith, (c.requires.starts.are v h).within, c.args.routine.now.well.laid.limits.few_edges)

pub offset_bounds-starts-v : goal.offset_bounds-starts-v
offset_bounds-starts-v c = omega (arith, small c)

pub bounds-starts-v : goal.bounds-starts-v
bounds-starts-v c = omega (arith, within (goal.at.bounds-starts-v c).Else-v-vertices, c.requires.starts.room)

pub overflow_cast-low : goal.overflow_cast-low
overflow_cast-low c = omega (arith, row (goal.at.overflow_cast-low c).Else-v-vertices c.args.v (omega (arith, within (goal.at.overflow_cast-low c).Else-v-vertices)))

pub overflow_add-size : goal.overflow_add-size
overflow_add-size c = omega (arith, small (goal.at.overflow_add-size c).Else-v-vertices)

pub offset_bounds-starts-v-2 : goal.offset_bounds-starts-v-2
offset_bounds-starts-v-2 c = omega (arith, small (goal.at.offset_bounds-starts-v-2 c).Else-v-vertices)

pub bounds-starts-v-2 : goal.bounds-starts-v-2
bounds-starts-v-2 c = omega (arith, within (goal.at.bounds-starts-v-2 c).Else-v-vertices, c.requires.starts.room)

pub overflow_cast-size : goal.overflow_cast-size
overflow_cast-size c = omega (arith, row (goal.at.overflow_cast-size c).Else-v-vertices (c.args.v + 1) (omega (arith, within (goal.at.overflow_cast-size c).Else-v-vertices)))

pub overflow_sub-size : goal.overflow_sub-size
overflow_sub-size c =
    let s = c.requires.starts in
    starts_rise (s.are c.args.v (omega (arith, within (goal.at.overflow_sub-size c).Else-v-vertices))) (s.are (c.args.v + 1) (omega (arith, within (goal.at.overflow_sub-size c).Else-v-vertices)))

pub loop-size-init : goal.loop-size-init
loop-size-init c = among_row c.args.w c.requires.starts (within (goal.at.loop-size-init c).Else-v-vertices)

-- ---- the search
pub onward-low-requires : goal.onward-low-requires
onward-low-requires c =
    record {
      half_bound = omega (arith, c.loop-size.invariant.listed);
    }

pub loop-size-preserved : goal.loop-size-preserved
loop-size-preserved c =
    let half = c.loop-size.size / 2 in
    subst (λ (low : ℕ). Among c.args.routine.now.bytes c.args.v c.args.w low (c.loop-size.size - half)) (sym c.onward-low.ensures)
    (among_half c.loop-size.invariant c.args.routine.now.well (omega arith))

pub returns-then-size-eq0 : goal.returns-then-size-eq0
returns-then-size-eq0 c = none_left c.loop-size.invariant (omega arith)

pub edge-e-requires : goal.edge-e-requires
edge-e-requires c = omega (arith, c.loop-size.invariant.listed)

pub returns-then-e-w : goal.returns-then-e-w
returns-then-e-w c = other_left c.loop-size.invariant (omega arith) (λ e. omega (arith, ap (λ (e : Edge). e.to) c.edge-e.ensures))

pub returns : goal.returns
returns c = one_left c.loop-size.invariant (omega arith) (omega (arith, ap (λ (e : Edge). e.to) c.edge-e.ensures))
