-- `check_ambiguous_at` meets its contract: a scan of the arrays.
use mathlib.Core.Path.{◌≡◌, refl, ◌∙◌}
use mathlib.Core.Bool.{◌&&◌}
use Prim.Native.Nat.{◌+◌, ◌*◌, ◌<◌}
use native.Mathlib.Omega.{arith}
use lib.ListN.{get_or}
use Rattle.labels.specs.Ambiguity.{is_ambiguous}
use Rattle.sets.specs.Sets.{has, several}
use Rattle.refusal.proofs.Checks.{scan_start, scan_stop, scan_next, scan_done}
use Rattle.routine.specs.Layout.{arrays}
use Rattle.checks.proofs.Rows.{ambiguous_cell, faulty, faultless}
use Rattle.checks.proofs.check_ambiguous_at.Goals as goal
use Rattle.checks.proofs.check_ambiguous_at.Goals.{In-loop-a}

pub loop-a-init : goal.loop-a-init
loop-a-init c = scan_start _ _

-- in the loop there is such an array
in_a : (c : In-loop-a) → c.loop-a.a < arrays c.args.routine.now.bytes
in_a c = omega (arith, c.arrays-a-end.ensures)

-- what the test of the cell says
cell_is : (c : In-loop-a) →
    let s = c.args in
    let a = c.loop-a.a in
    (has (get_or s.uses.now (8 * s.v + a) 0) 0 && several (get_or s.reaching.now (8 * s.v + a) 0)) ≡ is_ambiguous s.routine.now.bytes a s.v
cell_is c =
    ambiguous_cell c.requires.use_gives c.args.v c.requires.v_bound c.loop-a.a (in_a c) c.requires.at_references

pub returns-then-ambiguous : goal.returns-then-ambiguous
returns-then-ambiguous c = scan_stop c.loop-a.invariant (in_a (goal.at.returns-then-ambiguous c).In-loop-a) (faulty _ (c.is_ambiguous-ambiguous.ensures ∙ cell_is (goal.at.returns-then-ambiguous c).In-loop-a) c.if-ambiguous.true) refl

pub loop-a-preserved : goal.loop-a-preserved
loop-a-preserved c = scan_next c.loop-a.invariant (in_a (goal.at.loop-a-preserved c).In-loop-a) (faultless _ (c.is_ambiguous-ambiguous.ensures ∙ cell_is (goal.at.loop-a-preserved c).In-loop-a) c.if-ambiguous.false) refl

pub returns : goal.returns
returns c = scan_done c.loop-a.invariant (omega arith)
