-- `walk::relabel` meets its contract: the rules of one label and of the exit, with the letter and the kept set from the tables.
use mathlib.Core.Path.{◌≡◌, refl, sym, ap, subst}
use mathlib.Core.List.{List}
use Prim.Native.Nat.{ℕ, ◌+◌, ◌-◌, ◌*◌, ◌<◌}
use native.Mathlib.Omega.{arith}
use lib.Dec.{eqb}
use lib.ListN.{length}
use Rattle.labels.proofs.Rules.Proper.{proper}
use Rattle.passes.proofs.Cells.{few_cells, in_eight, in_table}
use Rattle.routine.specs.Arrays.{array_of}
use Rattle.routine.specs.Layout.{vertices}
use Rattle.routine.specs.declared.action.Action.{Action}
use Rattle.routine.specs.declared.array.ArrayRecord.{ArrayRecord}
use Rattle.sets.specs.Sets.{width}
use Rattle.state.specs.Carrying.{Visits}
use Rattle.walk.proofs.Walking.{relabelled_is}
use Rattle.walk.proofs.relabel.Goals as goal
use Rattle.walk.proofs.relabel.Goals.{After-relabelled-labelled, Start}

-- the array's place in the tables
module _ (s : Start) where
  abbrev place : ℕ
  place = 8 * s.args.v + s.args.a

  few_places : place < 2048
  few_places = few_cells s.args.routine.now.well s.requires.a_bound.0 s.requires.a_bound.1

  inside : (l : List ℕ) → length l ≡ 8 * vertices s.args.routine.now.bytes → place < length l
  inside = in_table s.args.routine.now.well s.requires.a_bound.0 s.requires.a_bound.1

  few_arrays : s.args.a < 8
  few_arrays = in_eight s.args.routine.now.well s.requires.a_bound.0

  small : {r : ArrayRecord} → r ≡ array_of s.args.routine.now.bytes s.args.a → r.initial < width
  small e = subst (λ (r : ArrayRecord). r.initial < width) (sym e) (proper _ s.args.routine.now.well _ s.requires.a_bound.0).initial_fits

recorded : (c : After-relabelled-labelled) → c.array-r.result ≡ array_of c.args.routine.now.bytes c.args.a
recorded c = c.array-r.ensures

pub overflow_mul-place : goal.overflow_mul-place
overflow_mul-place c = omega (arith, few_places (goal.at.overflow_mul-place c).Start)

pub overflow_add-place : goal.overflow_add-place
overflow_add-place c = omega (arith, few_places (goal.at.overflow_add-place c).Start)

pub bounds-letters-place : goal.bounds-letters-place
bounds-letters-place c = inside (goal.at.bounds-letters-place c).Start c.args.letters.now c.requires.letters_and_kept.letters_are.size

pub offset_bounds-kept-place : goal.offset_bounds-kept-place
offset_bounds-kept-place c = omega (arith, few_places (goal.at.offset_bounds-kept-place c).Start)

pub bounds-kept-place : goal.bounds-kept-place
bounds-kept-place c = inside (goal.at.bounds-kept-place c).Start c.args.kept.now c.requires.letters_and_kept.kept_are.size

pub relabelled-labelled-requires : goal.relabelled-labelled-requires
relabelled-labelled-requires c =
    record {
      a_bound = (few_arrays (goal.at.relabelled-labelled-requires c).Start, c.requires.others_len);
      visits = subst (λ (x : Action). Visits x c.args.c) (sym c.event-x.ensures) c.requires.visits;
    }

-- the caller's entry in the array's row
pub overflow_mul-own : goal.overflow_mul-own
overflow_mul-own c = omega (arith, few_arrays (goal.at.overflow_mul-own c).Start)

pub overflow_add-own : goal.overflow_add-own
overflow_add-own c = omega (arith, few_arrays (goal.at.overflow_add-own c).Start, small (goal.at.overflow_add-own c).Start (recorded (goal.at.overflow_add-own c).After-relabelled-labelled))

pub offset_bounds-others-own : goal.offset_bounds-others-own
offset_bounds-others-own c = omega (arith, few_arrays (goal.at.offset_bounds-others-own c).Start)

pub bounds-others-own : goal.bounds-others-own
bounds-others-own c = omega (arith, few_arrays (goal.at.bounds-others-own c).Start, small (goal.at.bounds-others-own c).Start (recorded (goal.at.bounds-others-own c).After-relabelled-labelled))

pub leave-requires : goal.leave-requires
leave-requires c = small (goal.at.leave-requires c).Start (recorded (goal.at.leave-requires c).After-relabelled-labelled)

pub returns : goal.returns
returns c =
    let g = c.args in
    let letter = c.requires.letters_and_kept.letters_are.cells g.a g.v c.requires.a_bound.0 c.requires.a_bound.1 in
    let keep = c.requires.letters_and_kept.kept_are.cells g.a g.v c.requires.a_bound.0 c.requires.a_bound.1 in
    let ends = ap (λ (n : ℕ). eqb g.v (n - 1)) c.vertices.ensures in
    relabelled_is g.routine.now.bytes g.a g.v (recorded (goal.at.returns c).After-relabelled-labelled) c.event-x.ensures letter keep ends c.relabelled-labelled.ensures refl c.leave.ensures
