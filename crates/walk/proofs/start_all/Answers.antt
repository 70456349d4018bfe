-- `walk::start_all` meets its contract: each array's state is filled in, one after the other.
use mathlib.Core.Path.{◌≡◌, refl, sym, subst}
use Prim.Native.Nat.{ℕ, ◌+◌, ◌*◌, ◌<◌}
use native.Mathlib.Omega.{arith}
use lib.ListN.{replicate}
use Rattle.passes.proofs.Cells.{in_eight}
use Rattle.labels.proofs.Rules.Proper.{proper}
use Rattle.routine.specs.Arrays.{array_of}
use Rattle.routine.specs.Layout.{arrays}
use Rattle.routine.specs.declared.array.ArrayRecord.{ArrayRecord}
use Rattle.sets.specs.Sets.{width}
use Rattle.state.specs.Carrying.{Carries, row_of}
use Rattle.state.specs.Cleaning.{callers}
use Rattle.state.specs.Start.{started}
use Rattle.words.proofs.Tables.{zeros_at}
use Rattle.walk.specs.Walks.{Held}
use Rattle.walk.proofs.Held.{hold_more}
use Rattle.walk.proofs.start_all.Goals as goal
use Rattle.walk.proofs.start_all.Goals.{In-loop-a}

-- what holds in a turn
module _ (c : In-loop-a) where
  small : c.loop-a.a < 8
  small = in_eight c.args.routine.now.well (omega (arith, c.arrays-a-end.ensures))

pub loop-a-init : goal.loop-a-init
loop-a-init c = (omega arith, record { states_sized = refl; versions_sized = c.requires.versions_len; stamps_sized = c.requires.stamps_len; others_sized = refl; stand = λ b h. absurd (omega arith) })

pub array-requires : goal.array-requires
array-requires c = omega (arith, c.arrays-a-end.ensures)

pub start-s-requires : goal.start-s-requires
start-s-requires c = subst (λ (r : ArrayRecord). r.initial < width) (sym c.array.ensures) (proper _ c.args.routine.now.well c.loop-a.a (omega (arith, c.arrays-a-end.ensures))).initial_fits

pub bounds-versions-a : goal.bounds-versions-a
bounds-versions-a c = omega (arith, small (goal.at.bounds-versions-a c).In-loop-a)

pub offset_bounds-stamps-a : goal.offset_bounds-stamps-a
offset_bounds-stamps-a c = omega (arith, small (goal.at.offset_bounds-stamps-a c).In-loop-a)

pub bounds-stamps-a : goal.bounds-stamps-a
bounds-stamps-a c = omega (arith, small (goal.at.bounds-stamps-a c).In-loop-a)

pub offset_bounds-states-a : goal.offset_bounds-states-a
offset_bounds-states-a c = omega (arith, small (goal.at.offset_bounds-states-a c).In-loop-a)

pub bounds-states-a : goal.bounds-states-a
bounds-states-a c = omega (arith, small (goal.at.bounds-states-a c).In-loop-a)

pub loop-a-preserved : goal.loop-a-preserved
loop-a-preserved c =
    let n = c.start-s.result in
    let file = c.args.routine.now.bytes in
    let a = c.loop-a.a in
    let zeros : ((row : ℕ → ℕ) → row (array_of file a).initial ≡ 0 → Carries (callers (array_of file a)) (started (array_of file a)) n row) =
    subst (λ (r : ArrayRecord). (row : ℕ → ℕ) → row r.initial ≡ 0 → Carries (callers r) (started r) n row) c.array.ensures c.start-s.ensures in
    (omega arith, hold_more n c.loop-a.invariant.1 (small (goal.at.loop-a-preserved c).In-loop-a) refl (λ b k ne in-k. refl) (zeros (row_of (replicate (8 * width) 0) a) (zeros_at (8 * width) (width * a + (array_of file a).initial))))

pub returns : goal.returns
returns c =
    let all : c.loop-a.a ≡ arrays c.args.routine.now.bytes = omega (arith, c.arrays-a-end.ensures) in
    subst (λ (m : ℕ). Held c.args.routine.now.bytes (λ b. started (array_of c.args.routine.now.bytes b)) m c.loop-a.states c.loop-a.versions c.loop-a.stamps (replicate (8 * width) 0)) all c.loop-a.invariant.1
