-- `check::check_row` meets its contract: a scan of the arrays.
use mathlib.Core.Path.{◌≡◌, refl, sym, ap, ◌∙◌}
use mathlib.Core.Bool.{Bool, not}
use Prim.Native.Nat.{◌+◌, ◌*◌, ◌<◌}
use native.Mathlib.Omega.{arith}
use Rattle.directives.specs.Layout.{arrays}
use Rattle.mappings.specs.Computed.{left_set}
use Rattle.refusal.proofs.Checks.{scan_start, scan_stop, scan_next, scan_done}
use Rattle.refusal.specs.Checks.{holds}
use Rattle.refusal.specs.declared.Refusal.TheVariants.{TwoMappings}
use Rattle.sets.specs.Sets.{several}
use Rattle.left.proofs.Cells.{few_cells, in_table, left-cell}
use Rattle.left.proofs.check.check_row.Goals as goal
use Rattle.left.proofs.check.check_row.Goals.{After-in_two, In-loop-a}

-- what holds in a turn
module _ (c : In-loop-a) where
  in_a : c.loop-a.a < arrays c.args.directives.now.bytes
  in_a = omega (arith, c.arrays-a-end.ensures)

  few : 8 * c.args.v + c.loop-a.a < 2048
  few = few_cells c.args.directives.now in_a c.requires.v_bound

pub loop-a-init : goal.loop-a-init
loop-a-init c = scan_start _ _

pub overflow_mul-at : goal.overflow_mul-at
overflow_mul-at c = omega (arith, few c)

pub overflow_add-at : goal.overflow_add-at
overflow_add-at c = omega (arith, few c)

pub offset_bounds-given-at : goal.offset_bounds-given-at
offset_bounds-given-at c = omega (arith, few c)

pub bounds-given-at : goal.bounds-given-at
bounds-given-at c = in_table c.args.directives.now (in_a (goal.at.bounds-given-at c).In-loop-a) c.requires.v_bound c.args.given.now c.requires.given.size

pub offset_bounds-others-at : goal.offset_bounds-others-at
offset_bounds-others-at c = omega (arith, few (goal.at.offset_bounds-others-at c).In-loop-a)

pub bounds-others-at : goal.bounds-others-at
bounds-others-at c = in_table c.args.directives.now (in_a (goal.at.bounds-others-at c).In-loop-a) c.requires.v_bound c.args.others.now c.requires.array_cells.size

-- what the test of the cell says
cell_is : (c : After-in_two) →
    c.in_two.result ≡ several (left_set c.args.directives.now.bytes c.loop-a.a c.args.v)
cell_is c =
    c.in_two.ensures ∙ left-cell c.args.directives.now.bytes c.requires.given c.requires.array_cells (in_a (goal.at.After-in_two c).In-loop-a) c.requires.v_bound

pub returns-then-in_two : goal.returns-then-in_two
returns-then-in_two c = scan_stop c.loop-a.invariant (in_a (goal.at.returns-then-in_two c).In-loop-a) (ap (λ (b : Bool). holds (not b) (TwoMappings c.args.v c.loop-a.a)) (sym c.if-in_two.true ∙ cell_is (goal.at.returns-then-in_two c).After-in_two)) refl

pub loop-a-preserved : goal.loop-a-preserved
loop-a-preserved c = scan_next c.loop-a.invariant (in_a (goal.at.loop-a-preserved c).In-loop-a) (ap (λ (b : Bool). holds (not b) (TwoMappings c.args.v c.loop-a.a)) (sym c.if-in_two.false ∙ cell_is (goal.at.loop-a-preserved c).After-in_two)) refl

pub returns : goal.returns
returns c = scan_done c.loop-a.invariant (omega (arith, c.arrays-a-end.ensures))
