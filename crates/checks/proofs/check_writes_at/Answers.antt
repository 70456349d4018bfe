-- `check_writes_at` meets its contract: a scan of the arrays.
use mathlib.Core.Path.{◌≡◌, refl, ◌∙◌}
use mathlib.Core.Bool.{not}
use Prim.Native.Nat.{◌+◌, ◌*◌, ◌<◌}
use native.Mathlib.Omega.{arith}
use lib.Bits.{bit_and}
use lib.Dec.{eqb}
use lib.ListN.{get_or}
use Rattle.labels.specs.Checks.{writes_in}
use Rattle.refusal.proofs.Checks.{scan_start, scan_stop, scan_next, scan_done}
use Rattle.routine.specs.Layout.{arrays}
use Rattle.checks.proofs.Rows.{writes_cell, faulty, faultless}
use Rattle.checks.proofs.check_writes_at.Goals as goal
use Rattle.checks.proofs.check_writes_at.Goals.{In-loop-a}

pub loop-a-init : goal.loop-a-init
loop-a-init c = scan_start _ _

-- in the loop there is such an array
in_a : (c : In-loop-a) → c.loop-a.a < arrays c.args.routine.now.bytes
in_a c = omega (arith, c.arrays-a-end.ensures)

-- what the test of the cell says
cell_is : (c : In-loop-a) →
    let s = c.args in
    let a = c.loop-a.a in
    not (eqb (bit_and (get_or s.uses.now (8 * s.v + a) 0) (get_or s.masks a 0)) 0) ≡ writes_in s.routine.now.bytes a s.v
cell_is c =
    writes_cell c.requires.use_gives c.args.v c.requires.v_bound c.loop-a.a (in_a c) c.requires.in_masks

pub returns-then-writes : goal.returns-then-writes
returns-then-writes c = scan_stop c.loop-a.invariant (in_a (goal.at.returns-then-writes c).In-loop-a) (faulty _ (c.is_write-writes.ensures ∙ cell_is (goal.at.returns-then-writes c).In-loop-a) c.if-writes.true) refl

pub loop-a-preserved : goal.loop-a-preserved
loop-a-preserved c = scan_next c.loop-a.invariant (in_a (goal.at.loop-a-preserved c).In-loop-a) (faultless _ (c.is_write-writes.ensures ∙ cell_is (goal.at.loop-a-preserved c).In-loop-a) c.if-writes.false) refl

pub returns : goal.returns
returns c = scan_done c.loop-a.invariant (omega arith)
