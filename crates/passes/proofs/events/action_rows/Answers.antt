-- `events::action_rows` meets its contract: row after row both tables are filled.
use Prim.Native.Nat.{◌≤◌, ◌<◌}
use native.Mathlib.Omega.{arith}
use Rattle.routine.specs.Layout.{vertices}
use Rattle.passes.proofs.Cells.{rows_begin, rows_further, rows_filled}
use Rattle.passes.proofs.events.action_rows.Goals as goal
use Rattle.passes.proofs.events.action_rows.Invariants.{version_at, use_at}
use Rattle.passes.proofs.events.action_rows.Goals.{In-loop-v}

-- what holds in a turn
module _ (c : In-loop-v) where
  in_v : c.loop-v.v < vertices c.args.routine.now.bytes
  in_v = omega (arith, c.vertices-v-end.ensures)

pub loop-v-init : goal.loop-v-init
loop-v-init c = (omega arith, rows_begin c.args.routine.now.well _ _ c.requires.versions_len c.requires.none_beyond, rows_begin c.args.routine.now.well _ _ c.requires.uses_len c.requires.none_beyond_2)

pub loop-v-preserved : goal.loop-v-preserved
loop-v-preserved c =
    let file = c.args.routine.now.bytes in
    let well = c.args.routine.now.well in (
      omega arith,
      rows_further well (version_at file) c.args.versions.now c.loop-v.v (in_v (goal.at.loop-v-preserved c).In-loop-v) c.loop-v.invariant.1 c.versions_row.ensures,
      rows_further well (use_at file) c.args.uses.now c.loop-v.v (in_v (goal.at.loop-v-preserved c).In-loop-v) c.loop-v.invariant.2 c.uses_row.ensures,
    )

pub returns : goal.returns
returns c =
    let file = c.args.routine.now.bytes in
    let well = c.args.routine.now.well in
    let all : vertices file ≤ c.loop-v.v = omega (arith, c.vertices-v-end.ensures) in
    record {
      cells_alone = rows_filled well (version_at file) c.args.versions.now c.loop-v.v all c.loop-v.invariant.1;
      cells_alone_2 = rows_filled well (use_at file) c.args.uses.now c.loop-v.v all c.loop-v.invariant.2;
    }
