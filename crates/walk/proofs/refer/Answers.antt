-- `walk::refer` meets its contract: one array after the other.
use mathlib.Core.Path.{◌≡◌, refl, sym, ap, ap₂, ◌∙◌}
use mathlib.Core.List.{List}
use Prim.Native.Nat.{ℕ, ◌≤◌, ◌<◌}
use native.Mathlib.Omega.{arith}
use lib.ListN.{length, get_or}
use Rattle.labels.specs.Events.{event}
use Rattle.labels.proofs.Rules.Events.{in_row, row_action}
use Rattle.routine.specs.Layout.{arrays}
use Rattle.routine.specs.declared.action.Action.{Action}
use Rattle.report.specs.Bytes.{records_bytes}
use Rattle.report.specs.Records.{records_at}
use Rattle.state.specs.Stamps.{stamp_by}
use Rattle.walk.specs.Walks.{cell_bytes, row_bytes}
use Rattle.passes.proofs.Cells.{in_eight}
use Rattle.words.specs.Tables.{rows, wrote}
use Rattle.words.proofs.Buffers.{begin, lies, lent, row_room, next_row, onward, all, end, buffer_length}
use Rattle.words.proofs.Replaced.{replacing_begin, replacing_behind, replacing_next, replacing_end}
use Rattle.words.proofs.Written.{part_from}
use Rattle.walk.proofs.refer.Goals as goal
use Rattle.walk.proofs.refer.Goals.{After-from-x, In-loop-a}

-- what holds in a turn
module _ (c : In-loop-a) where
  in_a : c.loop-a.a < arrays c.args.routine.now.bytes
  in_a = omega (arith, c.arrays-a-end.ensures)

  small : c.loop-a.a < 8
  small = in_eight c.args.routine.now.well in_a

  abbrev cells : ℕ → List ℕ
  cells = cell_bytes c.args.routine.now.bytes c.args.v c.args.step c.args.versions.now c.args.stamps.now

  -- the stamp of the next array is as it was
  same : get_or c.loop-a.stamps c.loop-a.a 0 ≡ get_or c.args.stamps.now c.loop-a.a 0
  same = replacing_behind c.loop-a.invariant.2 0 (omega arith)

pub loop-a-init : goal.loop-a-init
unfolding row_bytes rows
loop-a-init c = (begin _ _ _ c.requires.stamps_in_bounds, refl, replacing_begin _ _ _ _)

pub bounds-row-a : goal.bounds-row-a
bounds-row-a c = in_row _ _ c.row-row.ensures (in_a (goal.at.bounds-row-a c).In-loop-a)

-- the action that is read is the event
event_is : (c : After-from-x) → c.from-x.result ≡ event c.args.routine.now.bytes c.loop-a.a c.args.v
event_is c = c.from-x.ensures ∙ row_action _ _ c.row-row.ensures (in_a (goal.at.After-from-x c).In-loop-a) ∙ sym (c.requires.unlabelled.as_read c.loop-a.a)

-- and so its bytes are those of the row
bytes_are : (c : After-from-x) →
    records_bytes (records_at c.from-x.result c.args.step c.loop-a.a (get_or c.args.versions.now c.loop-a.a 0) (get_or c.loop-a.stamps c.loop-a.a 0)) ≡ cells (goal.at.After-from-x c).In-loop-a c.loop-a.a
bytes_are c =
    ap₂ (λ (x : Action) (stamp : ℕ). records_bytes (records_at x c.args.step c.loop-a.a (get_or c.args.versions.now c.loop-a.a 0) stamp)) (event_is c) (same (goal.at.After-from-x c).In-loop-a)

pub bounds-versions-a : goal.bounds-versions-a
bounds-versions-a c = omega (arith, small (goal.at.bounds-versions-a c).In-loop-a)

pub offset_bounds-stamps-a : goal.offset_bounds-stamps-a
offset_bounds-stamps-a c = omega (arith, small (goal.at.offset_bounds-stamps-a c).In-loop-a)

pub bounds-stamps-a : goal.bounds-stamps-a
bounds-stamps-a c = omega (arith, small (goal.at.bounds-stamps-a c).In-loop-a)

pub slice_bounds-put-count : goal.slice_bounds-put-count
slice_bounds-put-count c = lies c.loop-a.invariant.0 c.loop-a.invariant.1 (in_a (goal.at.slice_bounds-put-count c).In-loop-a)

pub slice_bounds-put-start : goal.slice_bounds-put-start
slice_bounds-put-start c = lies c.loop-a.invariant.0 c.loop-a.invariant.1 (in_a (goal.at.slice_bounds-put-start c).In-loop-a)

pub put-bytes-requires : goal.put-bytes-requires
put-bytes-requires c =
    record {
      step_bound = (c.requires.v_bound.1, small (goal.at.put-bytes-requires c).In-loop-a);
      stamp_in_bounds = omega (arith, ap length (bytes_are (goal.at.put-bytes-requires c).After-from-x), lent c.loop-a.invariant.0 c.loop-a.invariant.1 (in_a (goal.at.put-bytes-requires c).In-loop-a));
    }

pub overflow_add-bytes : goal.overflow_add-bytes
overflow_add-bytes c = omega (arith, c.put-bytes.ensures.value, ap length (bytes_are (goal.at.overflow_add-bytes c).After-from-x), row_room c.loop-a.invariant.0 c.loop-a.invariant.1 (in_a (goal.at.overflow_add-bytes c).In-loop-a), c.well_formed)

pub offset_bounds-stamps-a-in-loop-a : goal.offset_bounds-stamps-a-in-loop-a
offset_bounds-stamps-a-in-loop-a c = omega (arith, small (goal.at.offset_bounds-stamps-a-in-loop-a c).In-loop-a)

pub bounds-stamps-a-in-loop-a : goal.bounds-stamps-a-in-loop-a
bounds-stamps-a-in-loop-a c = omega (arith, small (goal.at.bounds-stamps-a-in-loop-a c).In-loop-a)

pub offset_bounds-stamps-a-in-loop-a-2 : goal.offset_bounds-stamps-a-in-loop-a-2
offset_bounds-stamps-a-in-loop-a-2 c = omega (arith, small (goal.at.offset_bounds-stamps-a-in-loop-a-2 c).In-loop-a)

pub bounds-stamps-a-in-loop-a-2 : goal.bounds-stamps-a-in-loop-a-2
bounds-stamps-a-in-loop-a-2 c = omega (arith, small (goal.at.bounds-stamps-a-in-loop-a-2 c).In-loop-a)

pub loop-a-preserved : goal.loop-a-preserved
loop-a-preserved c = (
  next_row c.loop-a.invariant.0 c.loop-a.invariant.1 (in_a (goal.at.loop-a-preserved c).In-loop-a) (c.put-bytes.ensures.out_after ∙ ap (wrote (part_from c.loop-a.out c.loop-a.bytes)) (bytes_are (goal.at.loop-a-preserved c).After-from-x)),
  onward c.loop-a.invariant.0 c.loop-a.invariant.1 (c.put-bytes.ensures.value ∙ ap length (bytes_are (goal.at.loop-a-preserved c).After-from-x)),
  replacing_next c.loop-a.invariant.2 (in_a (goal.at.loop-a-preserved c).In-loop-a) (omega arith)
      (c.stamp_after.ensures ∙ ap₂ (λ (x : Action) (stamp : ℕ). stamp_by x c.args.step stamp) (event_is (goal.at.loop-a-preserved c).After-from-x) (same (goal.at.loop-a-preserved c).In-loop-a)),
)

pub shape_of-out : goal.shape_of-out
shape_of-out c = buffer_length c.loop-a.invariant.0

pub returns : goal.returns
unfolding row_bytes
returns c =
    let over : arrays c.args.routine.now.bytes ≤ c.loop-a.a = omega (arith, c.arrays-a-end.ensures) in
    record {
      length_is = all c.loop-a.invariant.0 c.loop-a.invariant.1 over;
      out_is = end c.loop-a.invariant.0 over;
      stamps_are = replacing_end c.loop-a.invariant.2 over;
    }
