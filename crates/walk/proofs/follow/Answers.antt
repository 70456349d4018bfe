-- `walk::follow` meets its contract: at each vertex of the path the references, and then the labels.
use mathlib.Core.Path.{◌≡◌, refl, sym, ap, ap₂, subst, ◌∙◌}
use mathlib.Core.List.{List}
use Prim.Native.Nat.{ℕ, ◌+◌, ◌≤◌, ◌<◌}
use native.Mathlib.Omega.{arith}
use lib.ListN.{length, get_or}
use Rattle.labels.specs.Events.{event}
use Rattle.routine.specs.Layout.{arrays, vertices}
use Rattle.routine.specs.Arrays.{array_of}
use Rattle.demand.specs.Run.{state_after}
use Rattle.state.specs.Carrying.{carrying, Carries, Visits, row_of}
use Rattle.state.specs.Cleaning.{callers}
use Rattle.state.specs.States.{State}
use Rattle.state.specs.Vertex.{Ready}
use Rattle.state.specs.declared.Carried.{Carried}
use Rattle.state.proofs.Carrying.{carries_as}
use Rattle.path.specs.Paths.{steps, vertex_at}
use Rattle.report.specs.Bytes.{carried_of}
use borrow.Author.Tests.{not-true}
use Rattle.walk.specs.Walks.{Held, Reported, row_bytes, Referred, Unlabelled, Labels, relabelled_at}
use Rattle.walk.proofs.Held.{hold_more, untouched_more}
use Rattle.path.proofs.Paths.{Walk, walk, within-vertices}
use Rattle.walk.proofs.Walking.{begins, row_is, stamps_sized, then, carries_after, ready_after, visits_after, relabelled_next, held_on, steps_on, all_written, last_states}
use Rattle.passes.proofs.Cells.{in_eight}
use Rattle.words.proofs.Buffers.{row_room, buffer_length}
use Rattle.words.proofs.Replaced.{replaced_at}
use Rattle.words.proofs.Written.{part_from, part_length}
use Rattle.walk.proofs.follow.Goals as goal
use Rattle.walk.proofs.follow.Goals.{After-loop-i, After-serve-row, After-vertex-v, In-loop-a, In-loop-i}

-- what holds in a turn
module _ (c : In-loop-i) where
  abbrev file : List ℕ
  file = c.args.routine.now.bytes

  abbrev path : List ℕ
  path = c.args.path.now

  in_i : c.loop-i.i < steps path
  in_i = omega (arith, c.count-i-end.ensures)

  along : Walk file path
  along = walk c.args.routine.now.well c.requires.path_checked

  -- the buffer keeps its length
  same_room : length c.loop-i.out ≡ length c.args.out.now
  same_room = buffer_length c.loop-i.invariant.filled

-- once the vertex is known
module _ (c : After-vertex-v) where
  in_v : c.vertex-v.result < vertices (file (goal.at.After-vertex-v c).In-loop-i)
  in_v = subst (λ (v : ℕ). v < vertices (file (goal.at.After-vertex-v c).In-loop-i)) (sym c.vertex-v.ensures) (within-vertices c.args.routine.now.well (along (goal.at.After-vertex-v c).In-loop-i) c.loop-i.i (in_i (goal.at.After-vertex-v c).In-loop-i))

  has_room : c.loop-i.at + length (row_bytes (file (goal.at.After-vertex-v c).In-loop-i) c.vertex-v.result (c.loop-i.i + 1) c.loop-i.versions c.loop-i.stamps) ≤ length c.loop-i.out
  has_room =
      let row = ap (λ (v : ℕ). length (row_bytes (file (goal.at.After-vertex-v c).In-loop-i) v (c.loop-i.i + 1) c.loop-i.versions c.loop-i.stamps)) c.vertex-v.ensures
      ∙ ap length (row_is (file (goal.at.After-vertex-v c).In-loop-i) (path (goal.at.After-vertex-v c).In-loop-i) c.args.routine.now.well c.requires.path_checked (in_i (goal.at.After-vertex-v c).In-loop-i) (along (goal.at.After-vertex-v c).In-loop-i).short c.loop-i.invariant.held) in
      omega (arith, row, row_room c.loop-i.invariant.filled c.loop-i.invariant.place (in_i (goal.at.After-vertex-v c).In-loop-i), same_room (goal.at.After-vertex-v c).In-loop-i)

pub start_all-states-requires : goal.start_all-states-requires
start_all-states-requires c =
    record {
      versions_len = refl;
      stamps_len = refl;
    }

pub loop-i-init : goal.loop-i-init
loop-i-init c = begins c.args.routine.now.bytes c.args.path.now c.args.out.now c.requires.path_in_bounds c.start_all-states.ensures

pub vertex-v-requires : goal.vertex-v-requires
vertex-v-requires c = in_i c

pub overflow_add-i : goal.overflow_add-i
overflow_add-i c = omega (arith, in_i (goal.at.overflow_add-i c).In-loop-i, (along (goal.at.overflow_add-i c).In-loop-i).short)

pub slice_bounds-serve-count : goal.slice_bounds-serve-count
slice_bounds-serve-count c = omega (arith, has_room (goal.at.slice_bounds-serve-count c).After-vertex-v)

pub slice_bounds-serve-start : goal.slice_bounds-serve-start
slice_bounds-serve-start c = omega (arith, has_room (goal.at.slice_bounds-serve-start c).After-vertex-v)

pub serve-row-requires : goal.serve-row-requires
serve-row-requires c =
    record {
      v_bound = (in_v (goal.at.serve-row-requires c).After-vertex-v, omega (arith, in_i (goal.at.serve-row-requires c).In-loop-i, (along (goal.at.serve-row-requires c).In-loop-i).short));
      stamps_len = c.loop-i.invariant.held.stamps_sized;
      stamps_in_bounds = omega (arith, has_room (goal.at.serve-row-requires c).After-vertex-v, part_length c.loop-i.out c.loop-i.at);
    }

-- once the references are made
module _ (c : After-serve-row) where
  abbrev after : List ℕ
  after = c.serve-row.new.stamps

  referred : Referred (file (goal.at.After-serve-row c).In-loop-i) (vertex_at (path (goal.at.After-serve-row c).In-loop-i) c.loop-i.i) (c.loop-i.i + 1) c.loop-i.versions c.loop-i.stamps (part_from c.loop-i.out c.loop-i.at) c.serve-row.result.bytes after c.serve-row.new.out
  referred =
      subst (λ (v : ℕ). Referred (file (goal.at.After-serve-row c).In-loop-i) v (c.loop-i.i + 1) c.loop-i.versions c.loop-i.stamps (part_from c.loop-i.out c.loop-i.at) c.serve-row.result.bytes after c.serve-row.new.out)
      c.vertex-v.ensures c.serve-row.ensures.referred

pub overflow_add-at : goal.overflow_add-at
overflow_add-at c = omega (arith, c.serve-row.ensures.referred.length_is, has_room (goal.at.overflow_add-at c).After-vertex-v, same_room (goal.at.overflow_add-at c).In-loop-i, c.well_formed)

-- ---- the labels of the vertex
pub loop-a-init : goal.loop-a-init
loop-a-init c =
    let held = c.loop-i.invariant.held in
    (omega arith, record { states_sized = held.states_sized; versions_sized = held.versions_sized; stamps_sized = stamps_sized (file (goal.at.loop-a-init c).In-loop-i) (path (goal.at.loop-a-init c).In-loop-i) c.args.routine.now.well c.requires.path_checked (in_i (goal.at.loop-a-init c).In-loop-i) (along (goal.at.loop-a-init c).In-loop-i).short held (referred (goal.at.loop-a-init c).After-serve-row); others_sized = held.others_sized; stand = λ b h. absurd (omega arith) }, record { states_same = λ b h. refl; stamps_same = λ b h. refl; rows_same = λ b k h in-k. refl })

-- what holds in a turn
module _ (c : In-loop-a) where
  abbrev a : ℕ
  a = c.loop-a.a

  in_a : a < arrays (file (goal.at.In-loop-a c).In-loop-i)
  in_a = omega (arith, c.arrays-m.ensures)

  small : a < 8
  small = in_eight c.args.routine.now.well in_a

  abbrev v : ℕ
  v = c.vertex-v.result

  -- the array is as it was
  abbrev carried : Carried
  carried = carrying (get_or c.loop-a.stamps a 0) (carried_of c.loop-a.states a)

  same : carried ≡ carrying (get_or (after (goal.at.In-loop-a c).After-serve-row) a 0) (carried_of c.loop-i.states a)
  same = ap₂ carrying (c.loop-a.invariant.2.stamps_same a (omega arith)) (c.loop-a.invariant.2.states_same a (omega arith))

  -- its state once the references are made
  abbrev state : State
  state = then (file (goal.at.In-loop-a c).In-loop-i) (path (goal.at.In-loop-a c).In-loop-i) c.args.routine.now.well c.requires.path_checked (in_i (goal.at.In-loop-a c).In-loop-i) (along (goal.at.In-loop-a c).In-loop-i).short c.loop-i.invariant.held (referred (goal.at.In-loop-a c).After-serve-row) a in_a

  visits : Visits (event (file (goal.at.In-loop-a c).In-loop-i) a v) carried
  visits =
      subst (Visits (event (file (goal.at.In-loop-a c).In-loop-i) a v)) (sym same)
      (subst (λ (v : ℕ). Visits (event (file (goal.at.In-loop-a c).In-loop-i) a v) (carrying (get_or (after (goal.at.In-loop-a c).After-serve-row) a 0) (carried_of c.loop-i.states a))) (sym c.vertex-v.ensures)
      (visits_after (file (goal.at.In-loop-a c).In-loop-i) (path (goal.at.In-loop-a c).In-loop-i) c.args.routine.now.well c.requires.path_checked (in_i (goal.at.In-loop-a c).In-loop-i) (along (goal.at.In-loop-a c).In-loop-i).short c.loop-i.invariant.held (referred (goal.at.In-loop-a c).After-serve-row) a in_a))

  carries : Carries (callers (array_of (file (goal.at.In-loop-a c).In-loop-i) a)) state carried (row_of c.loop-a.others a)
  carries =
      carries_as (λ k in-k. c.loop-a.invariant.2.rows_same a k (omega arith) in-k)
      (subst (λ (d : Carried). Carries (callers (array_of (file (goal.at.In-loop-a c).In-loop-i) a)) state d (row_of c.loop-i.others a)) (sym same)
      (carries_after (file (goal.at.In-loop-a c).In-loop-i) (path (goal.at.In-loop-a c).In-loop-i) c.args.routine.now.well c.requires.path_checked (in_i (goal.at.In-loop-a c).In-loop-i) (along (goal.at.In-loop-a c).In-loop-i).short c.loop-i.invariant.held (referred (goal.at.In-loop-a c).After-serve-row) a in_a))

  ready : Ready state
  ready = ready_after (file (goal.at.In-loop-a c).In-loop-i) (path (goal.at.In-loop-a c).In-loop-i) c.args.routine.now.well c.requires.path_checked (in_i (goal.at.In-loop-a c).In-loop-i) (along (goal.at.In-loop-a c).In-loop-i).short c.loop-i.invariant.held (referred (goal.at.In-loop-a c).After-serve-row) a in_a

  next_is : relabelled_at (file (goal.at.In-loop-a c).In-loop-i) a v state ≡ state_after (file (goal.at.In-loop-a c).In-loop-i) (path (goal.at.In-loop-a c).In-loop-i) a (c.loop-i.i + 1)
  next_is =
      ap (λ (v : ℕ). relabelled_at (file (goal.at.In-loop-a c).In-loop-i) a v state) c.vertex-v.ensures
      ∙ relabelled_next (file (goal.at.In-loop-a c).In-loop-i) (path (goal.at.In-loop-a c).In-loop-i) c.args.routine.now.well c.requires.path_checked (in_i (goal.at.In-loop-a c).In-loop-i) (along (goal.at.In-loop-a c).In-loop-i).short c.loop-i.invariant.held (referred (goal.at.In-loop-a c).After-serve-row) a in_a

pub offset_bounds-states-a : goal.offset_bounds-states-a
offset_bounds-states-a c = omega (arith, small c)

pub bounds-states-a : goal.bounds-states-a
bounds-states-a c = omega (arith, small c)

pub offset_bounds-stamps-a : goal.offset_bounds-stamps-a
offset_bounds-stamps-a c = omega (arith, small (goal.at.offset_bounds-stamps-a c).In-loop-a)

pub bounds-stamps-a : goal.bounds-stamps-a
bounds-stamps-a c = omega (arith, small (goal.at.bounds-stamps-a c).In-loop-a)

pub relabel-next-requires : goal.relabel-next-requires
relabel-next-requires c =
    record {
      a_bound = (in_a (goal.at.relabel-next-requires c).In-loop-a, in_v (goal.at.relabel-next-requires c).After-vertex-v);
      letters_and_kept = c.requires.letters_and_kept;
      others_len = c.loop-a.invariant.1.others_sized;
      visits = subst (Visits (event (file (goal.at.relabel-next-requires c).In-loop-i) (a (goal.at.relabel-next-requires c).In-loop-a) (v (goal.at.relabel-next-requires c).In-loop-a))) (sym c.with_stamp-c.ensures) (visits (goal.at.relabel-next-requires c).In-loop-a);
    }

pub bounds-versions-a : goal.bounds-versions-a
bounds-versions-a c = omega (arith, small (goal.at.bounds-versions-a c).In-loop-a)

pub offset_bounds-stamps-a-in-loop-a : goal.offset_bounds-stamps-a-in-loop-a
offset_bounds-stamps-a-in-loop-a c = omega (arith, small (goal.at.offset_bounds-stamps-a-in-loop-a c).In-loop-a)

pub bounds-stamps-a-in-loop-a : goal.bounds-stamps-a-in-loop-a
bounds-stamps-a-in-loop-a c = omega (arith, small (goal.at.bounds-stamps-a-in-loop-a c).In-loop-a)

pub offset_bounds-states-a-in-loop-a : goal.offset_bounds-states-a-in-loop-a
offset_bounds-states-a-in-loop-a c = omega (arith, small (goal.at.offset_bounds-states-a-in-loop-a c).In-loop-a)

pub bounds-states-a-in-loop-a : goal.bounds-states-a-in-loop-a
bounds-states-a-in-loop-a c = omega (arith, small (goal.at.bounds-states-a-in-loop-a c).In-loop-a)

pub loop-a-preserved : goal.loop-a-preserved
loop-a-preserved c =
    let inv = c.loop-a.invariant in
    let next = c.relabel-next.result in
    let file = file (goal.at.loop-a-preserved c).In-loop-i in
    let before = subst (λ (d : Carried). Carries (callers (array_of file (a (goal.at.loop-a-preserved c).In-loop-a))) (state (goal.at.loop-a-preserved c).In-loop-a) d (row_of c.loop-a.others (a (goal.at.loop-a-preserved c).In-loop-a))) (sym c.with_stamp-c.ensures) (carries (goal.at.loop-a-preserved c).In-loop-a) in
    let is = subst (λ (w : State). Carries (callers (array_of file (a (goal.at.loop-a-preserved c).In-loop-a))) w next (row_of c.relabel-next.new.others (a (goal.at.loop-a-preserved c).In-loop-a))) (next_is (goal.at.loop-a-preserved c).In-loop-a) (c.relabel-next.ensures.rule (state (goal.at.loop-a-preserved c).In-loop-a) (ready (goal.at.loop-a-preserved c).In-loop-a) before) in (
      omega arith,
      hold_more next inv.1 (small (goal.at.loop-a-preserved c).In-loop-a) (c.relabel-next.ensures.sized ∙ inv.1.others_sized) c.relabel-next.ensures.other_rows is,
      untouched_more next inv.2 c.relabel-next.ensures.other_rows,
    )

pub loop-i-preserved : goal.loop-i-preserved
loop-i-preserved c =
    let well = c.args.routine.now.well in
    let accepted = c.requires.path_checked in
    let short = (along (goal.at.loop-i-preserved c).In-loop-i).short in
    let all : c.loop-a.a ≡ arrays (file (goal.at.loop-i-preserved c).In-loop-i) = omega (arith, c.arrays-m.ensures, c.loop-a.invariant.0) in
    steps_on (file (goal.at.loop-i-preserved c).In-loop-i) (path (goal.at.loop-i-preserved c).In-loop-i) well accepted (in_i (goal.at.loop-i-preserved c).In-loop-i) short c.loop-i.invariant (referred (goal.at.loop-i-preserved c).After-serve-row)
    (subst (λ (k : ℕ). Held (file (goal.at.loop-i-preserved c).In-loop-i) (λ b. state_after (file (goal.at.loop-i-preserved c).In-loop-i) (path (goal.at.loop-i-preserved c).In-loop-i) b (c.loop-i.i + 1)) k c.loop-a.states c.loop-a.versions c.loop-a.stamps c.loop-a.others) all c.loop-a.invariant.1)

pub loop-i-preserved-then-not-row : goal.loop-i-preserved-then-not-row
loop-i-preserved-then-not-row c =
    let well = c.args.routine.now.well in
    let accepted = c.requires.path_checked in
    let short = (along (goal.at.loop-i-preserved-then-not-row c).In-loop-i).short in
    let none = subst (λ (v : ℕ). Unlabelled (file (goal.at.loop-i-preserved-then-not-row c).In-loop-i) v) c.vertex-v.ensures (subst (Labels (file (goal.at.loop-i-preserved-then-not-row c).In-loop-i) c.vertex-v.result) (not-true _ c.if-not-row.true) c.serve-row.ensures.labels) in
    steps_on (file (goal.at.loop-i-preserved-then-not-row c).In-loop-i) (path (goal.at.loop-i-preserved-then-not-row c).In-loop-i) well accepted (in_i (goal.at.loop-i-preserved-then-not-row c).In-loop-i) short c.loop-i.invariant (referred (goal.at.loop-i-preserved-then-not-row c).After-serve-row) (held_on (file (goal.at.loop-i-preserved-then-not-row c).In-loop-i) (path (goal.at.loop-i-preserved-then-not-row c).In-loop-i) well accepted (in_i (goal.at.loop-i-preserved-then-not-row c).In-loop-i) short c.loop-i.invariant.held (referred (goal.at.loop-i-preserved-then-not-row c).After-serve-row) none)

-- the path has been followed
module _ (c : After-loop-i) where
  over : steps c.args.path.now ≤ c.loop-i.i
  over = omega (arith, c.count-i-end.ensures)

pub settle_all-requires : goal.settle_all-requires
settle_all-requires c = omega (arith, c.arrays-m.ensures, c.args.routine.now.well.laid.limits.few_arrays)

pub shape_of-out : goal.shape_of-out
shape_of-out c = buffer_length c.loop-i.invariant.filled

pub returns : goal.returns
returns c =
    let w = c.loop-i.invariant in
    let e = over (goal.at.returns c).After-loop-i in
    record {
      by_index = λ a in_a. subst (Reported (state_after c.args.routine.now.bytes c.args.path.now a (steps c.args.path.now)))
          (sym (ap (λ (l : List Carried). carried_of l a) c.settle_all.ensures ∙ replaced_at _ 0 _ _ _ a (omega arith) (omega (arith, c.arrays-m.ensures)) (omega (arith, w.held.states_sized, c.arrays-m.ensures, c.args.routine.now.well.laid.limits.few_arrays))))
          (last_states w e a in_a);
      out_after = all_written w e;
    }
