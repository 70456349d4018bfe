-- Demand 3 for every accepted file and path: all arrays at once, along the whole path.
-- Assumes nothing.
use Rattle.std.specs.Prelude.{Ok}
use mathlib.Core.Path.{◌≡◌, refl, sym, ap, subst, ◌∙◌}
use mathlib.Core.Bool.{true, cond}
use mathlib.Core.List.{List}
use mathlib.Core.Option.{Option, none, some}
use Prim.Native.Nat.{ℕ, zero, suc, ◌+◌, ◌-◌, ◌≤◌, ◌<◌, ◌^◌}
use native.Mathlib.Nat.{add-zero}
use native.Mathlib.Omega.{arith}
use lib.Dec.{T}
use lib.Ieee.Bits.{is_true}
use mathlib.Core.Logic.Iff
use mathlib.Core.Logic.{⊎_elim}
use Rattle.labels.specs.Checks.{writes_in, check20}
use Rattle.labels.specs.Events.{event, is_label, version, version_of, is_write}
use Rattle.labels.specs.Uses.{use_of}
use Rattle.labels.proofs.Rules.Arrivals.{last_snoc}
use Rattle.labels.proofs.Rules.Checks.{check20_passed}
use Rattle.labels.proofs.Rules.Uses.{unwritten_d}
use Rattle.routine.specs.Arrays.{kind, initial, is_in, is_in_or_inout, is_out_or_inout}
use Rattle.labels.specs.Reaching.{or_last, last_version}
use Rattle.labels.specs.declared.Use.{Use}
use Rattle.words.proofs.Tests.{at_cond, and_iff}
use Rattle.labels.proofs.Rules.Proper.{proper}
use Rattle.routine.specs.Actions.{is_reference, is_remap}
use Rattle.routine.specs.Layout.{arrays, vertices, exit}
use Rattle.routine.specs.Reader.{WellFormed}
use Rattle.routine.specs.declared.action.Action.{Action}
use Rattle.routine.specs.declared.action.Action.TheVariants.{Nothing, Reference, Remap, Unknown}
use Rattle.routine.specs.declared.array.ArrayRecord.{ArrayRecord}
use Rattle.state.specs.States.{State, stamp_of}
use Rattle.demand.specs.Demand.{IsHome, IsCallers, Demand3}
use Rattle.state.specs.Fits.{Fits}
use Rattle.demand.specs.Machine.{Machine, machine_step, machine_after, machine_records}
use Rattle.path.specs.Paths.{steps, vertex_at, path_check}
use Rattle.state.specs.Moves.{moves, copies_stamp}
use Rattle.state.specs.References.{referenced}
use Rattle.state.specs.Vertex.{labelled, visited}
use Rattle.demand.specs.Run.{state_after, run_records, copied_by, copied_at, stamps_copied}
use Rattle.state.proofs.Exit.{left_copies}
use Rattle.demand.proofs.Along.{Follows, fits_at, first_remaps, used_at, below_at, alike_at, few_at, home_at}
use Rattle.demand.proofs.Caller.{callers_at}
use Rattle.demand.proofs.Invariant.{Sound, D_or_not}
use Rattle.path.proofs.Paths.{Walk, walk, within-vertices}
use Rattle.demand.proofs.Sound.{computed_plan, exit_quiet, sound}
use Rattle.words.specs.Tables.{table, rows}
use Rattle.words.proofs.Tables.{rows_same}
use Rattle.sets.specs.Sets.{width}

-- ---- the version of the last label before a vertex

-- a label's version is held from there on
last_step : (x : Action) (step : ℕ) (m : Machine) → or_last (some m.held) (cond (is_remap x) (some (version_of x)) none) ≡ some (machine_step x step m).held
last_step Nothing step m = refl
last_step (Reference x) step m = refl
last_step (Remap k) step m = refl
last_step Unknown step m = refl

-- ---- copies counted

visited_copies : (r : ArrayRecord) (x : Action) (u : Use) (keep step : ℕ) (s : State) → (visited r x u keep step s).copies ≡ s.copies + cond (copied_by x u s) 1 0
unfolding labelled referenced
visited_copies r Nothing u keep step s = sym (add-zero s.copies)
visited_copies r (Reference x) u keep step s = sym (add-zero s.copies)
visited_copies r (Remap t) u keep step s =
    at_cond (λ (s' : State). s'.copies ≡ s.copies + cond (copies_stamp u t s) 1 0) (moves u t s) (λ h. refl) (λ h. cc (add-zero s.copies))
visited_copies r Unknown u keep step s = sym (add-zero s.copies)

-- ---- one array of an accepted file along an accepted path

module _ {file path : List ℕ} (walk : Walk file path) (a : ℕ) where
  follows : Follows (computed_plan file a) (vertex_at path) (steps path) (state_after file path a) (machine_after file path a)
  unfolding state_after machine_after
  follows =
      record {
        short = walk.short;
        begins = walk.begins;
        joined = walk.joined;
        run_start = refl;
        run_step = λ i. refl;
        machine_start_lem = refl;
        machine_step_lem = λ i. refl;
      }

  counted : (n : ℕ) → (state_after file path a n).copies ≡ stamps_copied file path a n
  unfolding state_after stamps_copied
  counted zero = at_cond (λ (s : State). s.copies ≡ 0) (is_in_or_inout (kind file a)) (λ _. refl) (λ _. refl)
  counted (suc i) = rw (left_copies, visited_copies) (ap (λ (c : ℕ). c + cond (copied_at file path a i) 1 0) (counted i))

  module _ (sound : Sound (computed_plan file a)) where
    entered : event file a (vertex_at path 0) ≡ Remap (initial file a)
    entered = first_remaps sound follows

    -- the last label's version is held
    last_held : (i : ℕ) → last_version (is_label file a) (version file a) (table (vertex_at path) (suc i)) ≡ some (machine_after file path a (suc i)).held
    unfolding machine_after version rows
    last_held zero = rw entered
    last_held (suc i) =
        let v = vertex_at path (suc i) in
        last_snoc _ _ (table (vertex_at path) (suc i)) v
        ∙ ap (λ (o : Option ℕ). or_last o (cond (is_label file a v) (some (version file a v)) none)) (last_held i)
        ∙ last_step (event file a v) (suc i + 1) (machine_after file path a (suc i))

    -- and a reference uses it
    names : (i : ℕ) → i < steps path → T (is_reference (event file a (vertex_at path i)))
        → last_version (is_label file a) (version file a) (table (vertex_at path) i) ≡ some (state_after file path a i).current
    names zero h g = absurd (rw entered at g)
    names (suc i) h g = last_held i ∙ ap some (sym (used_at sound follows (suc i) h g))

    home : vertex_at path (steps path - 1) ≡ exit file → is_out_or_inout (kind file a) ≡ true → IsHome file path a
    home e k =
        let n : suc (steps path - 1) ≡ steps path = omega (arith, walk.some) in
        rw (← n) (home_at sound follows (steps path - 1) (omega arith) e k)

-- ---- the whole

module _ (file path : List ℕ) (w : WellFormed file) (accepted : path_check file path ≡ Ok tt) where
  walks : Walk file path
  walks = walk w accepted

  plans : (a : ℕ) → a < arrays file → Sound (computed_plan file a)
  plans a l = sound (proper file w a l)

  -- the caller's copy of an in argument, which no vertex writes
  callers : check20 file ≡ Ok tt → (a : ℕ) → a < arrays file → vertex_at path (steps path - 1) ≡ exit file → T (is_in (kind file a)) → IsCallers file path a
  unfolding writes_in event
  callers unwritten a l e own =
      let none : (v : ℕ) → v < vertices file → T (is_write (event file a v)) → ⊥ =
      λ v in_v h. (check20_passed file).0 unwritten v a in_v l ((and_iff (is_in (kind file a)) _ Iff.rfl Iff.rfl).1 (own, h)) in
      let n : suc (steps path - 1) ≡ steps path = omega (arith, walks.some) in
      let k = initial file a in
      subst (λ (m : ℕ). let s = state_after file path a m in
      (s.current ≡ k) × (s.live ≡ 2 ^ k) × (stamp_of s k ≡ 65535) × (s.copies ≡ (state_after file path a (steps path - 1)).copies)) n
      (callers_at (plans a l) (follows walks a) (is_true _ own)
      (λ i h. none (vertex_at path i) (within-vertices w walks i h))
      (λ i h. ⊎_elim (λ d. absurd (unwritten_d file a (proper file w a l) (vertex_at path i) none d)) (λ d. d) (D_or_not (use_of file a (vertex_at path i))))
      (exit_quiet (proper file w a l) w l (is_true _ own)) (steps path - 1) (omega arith) e)

  pub demand3 : check20 file ≡ Ok tt → Demand3 file path
  unfolding run_records machine_records
  demand3 unwritten =
      record {
        reads_alike = rows_same _ _ (steps path) (λ i h. rows_same _ _ (arrays file) (λ a l. alike_at (plans a l) (follows walks a) i a h));
        source_names = λ i a h l. names walks a (plans a l) i h;
        ends_home = λ a l e k. home walks a (plans a l) e (is_true _ k);
        ends_callers = λ a l. callers unwritten a l;
        copies_counted = λ a l. counted walks a (steps path);
        copies_fewer = λ a l. few_at (plans a l) (follows walks a) (steps path) (omega arith);
      }

  -- every state on the way fits its types
  pub state_fits : (a n : ℕ) → a < arrays file → n ≤ steps path → Fits (state_after file path a n) n
  state_fits a n l = fits_at (plans a l) (follows walks a) n

  -- and at a reference a version is current
  pub reference_below :
      (i a : ℕ) → i < steps path → a < arrays file → T (is_reference (event file a (vertex_at path i))) → (state_after file path a i).current < width
  reference_below i a h l = below_at (plans a l) (follows walks a) i h
