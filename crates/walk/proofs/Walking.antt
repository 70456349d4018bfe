-- Following the path: what has been written, and how the arrays stand, after the first i vertices.
-- Assumes nothing.
use Rattle.std.specs.Prelude.{Ok}
use mathlib.Core.Path.{◌≡◌, refl, sym, ap, ap₂, subst, ◌∙◌}
use mathlib.Core.Bool.{Bool}
use mathlib.Core.List.{List, ◌++◌}
use mathlib.Core.Logic.{◌⊎◌}
use Prim.Native.Nat.{ℕ, ◌+◌, ◌-◌, ◌≤◌, ◌<◌}
use native.Mathlib.Numerals.{add-one}
use native.Mathlib.Omega.{arith}
use lib.Dec.{T, eqb}
use lib.ListN.{length, get_or, take, drop}
use Rattle.labels.specs.Events.{event, version_of, version}
use Rattle.labels.specs.Kept.{kept_of}
use Rattle.labels.specs.Letters.{letter_byte, use_of_byte}
use Rattle.labels.specs.Uses.{use_of}
use Rattle.labels.proofs.Rules.Events.{version_fits}
use Rattle.labels.proofs.Rules.Proper.{proper}
use Rattle.labels.proofs.Letters.{letter_use}
use Rattle.routine.specs.Actions.{is_reference}
use Rattle.routine.specs.Arrays.{array_of}
use Rattle.routine.specs.Layout.{arrays, exit}
use Rattle.routine.specs.Reader.{WellFormed}
use Rattle.routine.specs.declared.action.Action.{Action}
use Rattle.routine.specs.declared.action.Action.TheVariants.{Nothing, Reference, Remap, Unknown}
use Rattle.routine.specs.declared.array.ArrayRecord.{ArrayRecord}
use Rattle.sets.specs.Sets.{width}
use Rattle.state.specs.Carrying.{carrying, Carries, Visits, row_of, Relabelled}
use Rattle.state.specs.Cleaning.{callers}
use Rattle.state.specs.Exit.{left}
use Rattle.state.specs.Fits.{Fits}
use Rattle.state.specs.Start.{started}
use Rattle.state.specs.States.{State, nothing}
use Rattle.state.specs.Vertex.{labelled, relabelled, Ready}
use Rattle.state.specs.declared.Carried.{Carried}
use Rattle.state.proofs.States.{below_current}
use Rattle.state.proofs.Carrying.{referred, referred_carries, referred_ready, visited_is, no_label}
use Rattle.path.specs.Paths.{steps, vertex_at, path_check}
use Rattle.report.specs.Records.{records_at}
use Rattle.report.specs.Bytes.{carried_of, records_bytes}
use Rattle.demand.specs.Run.{state_after, run_records}
use Rattle.walk.specs.Walks.{Held, Reported, row_bytes, Referred, Unlabelled, relabelled_at, RelabelledAt}
use Rattle.walk.proofs.Bytes.{record_bytes_at, step_bytes, records_bytes_lem}
use Rattle.walk.proofs.Held.{after-length, after_at}
use Rattle.demand.proofs.Demand.{state_fits, reference_below}
use Rattle.words.specs.Tables.{rows, wrote}
use Rattle.words.proofs.Buffers.{Filled, begin, next_row, onward, end}
use Rattle.words.proofs.Tables.{rows_same}
use Rattle.words.proofs.Written.{part_from}

-- the bytes of the first i vertices stand at the front, up to `at`
pub record Walking (file path old : List ℕ) (at i : ℕ) (states : List Carried) (versions stamps others out : List ℕ) : Type 0 where
  pub held : Held file (λ b. state_after file path b i) (arrays file) states versions stamps others
  pub filled : Filled (step_bytes file path) (steps path) old i out
  pub place : at ≡ length (rows (step_bytes file path) i)

-- before the first step
pub begins : (file path old : List ℕ) {states : List Carried} {versions stamps others : List ℕ} → length (records_bytes (run_records file path)) ≤ length old
    → Held file (λ a. started (array_of file a)) (arrays file) states versions stamps others → Walking file path old 0 0 states versions stamps others old
unfolding state_after rows
begins file path old fits h = record {
  held = h;
  filled = begin (step_bytes file path) (steps path) old (subst (λ (l : List ℕ). length l ≤ length old) (records_bytes_lem file path) fits);
  place = refl;
}

-- ---- one vertex

-- an array's next state, from what the code has
pub relabelled_is : (file : List ℕ) (a v : ℕ) {letter keep : ℕ} {r : ArrayRecord} {x : Action} {c t n : Carried} {held : ℕ} {ends : Bool} {old new : List ℕ} → r ≡ array_of file a
    → x ≡ event file a v → letter ≡ letter_byte (use_of file a v) → keep ≡ kept_of file a v → ends ≡ eqb v (exit file)
    → Relabelled x (use_of_byte letter) keep a c old t new
    → held ≡ row_of new a r.initial
    → ((s : State) (row : ℕ → ℕ) → Carries (callers r) s t row → held ≡ row r.initial → Carries (callers r) (left r ends s) n row) → RelabelledAt file a v c old n new
unfolding relabelled_at
relabelled_is file a v {letter} {keep} {r} {x} {c} {t} {n} {held} {ends} {old} {new} e1 e2 e3 e4 e5 l is_held_lem leaves = record {
  sized = l.sized;
  other_rows = l.other_rows;
  rule = λ s ready h.
      let r' = array_of file a in
      let before = subst (λ (r : ArrayRecord). Carries (callers r) s c (row_of old a)) (sym e1) h in
      let after = leaves (relabelled r x (use_of_byte letter) keep s) (row_of new a) (l.rule r s ready before) is_held_lem in
      let same : left r ends (relabelled r x (use_of_byte letter) keep s) ≡ left r' (eqb v (exit file)) (relabelled r' (event file a v) (use_of file a v) (kept_of file a v) s) = rw (e1, e2, e3, letter_use, e4, e5) in
      subst (λ (w : State). Carries (callers r') w n (row_of new a)) same (subst (λ (r'' : ArrayRecord). Carries (callers r'') (left r ends (relabelled r x (use_of_byte letter) keep s)) n (row_of new a)) e1 after);
}

records_same : (x : Action) (step a : ℕ) {version version' stamp stamp' : ℕ} → (T (is_reference x) → (version ≡ version') × (stamp ≡ stamp'))
    → records_at x step a version stamp ≡ records_at x step a version' stamp'
records_same Nothing step a h = refl
records_same (Reference x) step a h = ap₂ (λ (v s : ℕ). records_at (Reference x) step a v s) (h tt).0 (h tt).1
records_same (Remap t) step a h = refl
records_same Unknown step a h = refl

module _ (file path : List ℕ) (well : WellFormed file) (accepted : path_check file path ≡ Ok tt) {i : ℕ} (in_i : i < steps path) (short : steps path ≤ 4096)
    {states : List Carried} {versions stamps others : List ℕ} (held : Held file (λ b. state_after file path b i) (arrays file) states versions stamps others) where
  abbrev v : ℕ
  v = vertex_at path i

  module _ (b : ℕ) (in_b : b < arrays file) where
    abbrev own : ℕ
    own = callers (array_of file b)

    abbrev s : State
    s = state_after file path b i

    abbrev c : Carried
    c = carrying (get_or stamps b 0) (carried_of states b)

    abbrev x : Action
    x = event file b v

    fits : Fits s i
    fits = state_fits file path well accepted b i in_b (omega arith)

    is : Carries own s c (row_of others b)
    is = (held.stand b in_b).is

    below : T (is_reference x) → s.current < width
    below r = reference_below file path well accepted i b in_i in_b r

    record_is : records_bytes (records_at x (i + 1) b (get_or versions b 0) (get_or stamps b 0)) ≡ record_bytes_at file path i b
    record_is =
        ap records_bytes (records_same x (i + 1) b (λ r. (
          (held.stand b in_b).version_is ∙ sym (ap (λ (s : State). s.current) is.is),
          is.stamp_is (below_current s (below r)),
        )))

  pub row_is : row_bytes file v (i + 1) versions stamps ≡ step_bytes file path i
  unfolding row_bytes
  row_is = rows_same _ (record_bytes_at file path i) (arrays file) record_is

  -- once the references are made
  module _ {old : List ℕ} {bytes : ℕ} {after new : List ℕ} (r : Referred file v (i + 1) versions stamps old bytes after new) where
    pub stamps_sized : length after ≡ 8
    stamps_sized = after-length file v (i + 1) stamps r.stamps_are ∙ held.stamps_sized

    module _ (b : ℕ) (in_b : b < arrays file) where
      -- the array's state then
      abbrev pub then : State
      then = referred (event file b v) (i + 1) (state_after file path b i)

      pub carries_after : Carries (callers (array_of file b)) then (carrying (get_or after b 0) (carried_of states b)) (row_of others b)
      carries_after =
          subst (λ (y : ℕ). Carries (callers (array_of file b)) then (carrying y (carried_of states b)) (row_of others b))
          (sym (after_at file v (i + 1) stamps r.stamps_are (omega (arith, held.stamps_sized, well.laid.limits.few_arrays)) b in_b))
          (referred_carries (is b in_b) (fits b in_b).stamps.wide (i + 1) (event file b v) (below b in_b))

      pub ready_after : Ready then
      ready_after =
          referred_ready (event file b v) (i + 1) (state_after file path b i)
          (record { current = (fits b in_b).current; wide = (fits b in_b).stamps.wide; few_copies = omega (arith, (fits b in_b).copies) })

      pub visits_after : Visits (event file b v) (carrying (get_or after b 0) (carried_of states b))
      unfolding version
      visits_after = record {
        sound = record {
          current = subst (λ (k : ℕ). (k < width) ⊎ (k ≡ nothing)) (ap (λ (s : State). s.current) carries_after.is) ready_after.current;
          few_copies = subst (λ (k : ℕ). k < 65535) (ap (λ (s : State). s.copies) carries_after.is) ready_after.few_copies;
        };
        at_remap = λ t g. subst (λ (x : Action). version_of x < width) g (version_fits file b (proper file well b in_b) v);
      }

      pub relabelled_next : relabelled_at file b v then ≡ state_after file path b (i + 1)
      unfolding relabelled_at state_after
      relabelled_next =
          let a = array_of file b in
          ap (left a (eqb v (exit file))) (visited_is a (use_of file b v) (kept_of file b v) (i + 1) (state_after file path b i) (event file b v))
          ∙ ap (state_after file path b) (sym (add-one i))

      stays : Unlabelled file v → relabelled_at file b v then ≡ then
      unfolding relabelled_at labelled
      stays u =
          ap (λ (t : Bool). left (array_of file b) t (relabelled (array_of file b) (event file b v) (use_of file b v) (kept_of file b v) then)) u.inner
          ∙ no_label (array_of file b) (use_of file b v) (kept_of file b v) then (event file b v) (u.no_label b in_b)

    -- no array has a label, and the path is not at the exit
    pub held_on : Unlabelled file v → Held file (λ b. state_after file path b (i + 1)) (arrays file) states versions after others
    held_on u = record {
      states_sized = held.states_sized;
      versions_sized = held.versions_sized;
      stamps_sized = stamps_sized;
      others_sized = held.others_sized;
      stand = λ b in_b. record {
        is = subst (λ (s : State). Carries (callers (array_of file b)) s (carrying (get_or after b 0) (carried_of states b)) (row_of others b)) (sym (stays b in_b u) ∙ relabelled_next b in_b) (carries_after b in_b);
        version_is = (held.stand b in_b).version_is;
      };
    }

-- the step is made
module _ (file path : List ℕ) (well : WellFormed file) (accepted : path_check file path ≡ Ok tt) {old : List ℕ} {at i : ℕ}
    {states : List Carried} {versions stamps others out : List ℕ} (in_i : i < steps path) (short : steps path ≤ 4096) (w : Walking file path old at i states versions stamps others out)
    {bytes : ℕ} {after new : List ℕ} (r : Referred file (vertex_at path i) (i + 1) versions stamps (part_from out at) bytes after new) where
  row_same : row_bytes file (vertex_at path i) (i + 1) versions stamps ≡ step_bytes file path i
  row_same = row_is file path well accepted in_i short w.held

  pub steps_on : {states' : List Carried} {versions' stamps' others' : List ℕ} → Held file (λ b. state_after file path b (i + 1)) (arrays file) states' versions' stamps' others'
      → Walking file path old (at + bytes) (i + 1) states' versions' stamps' others' (take at out ++ (new ++ drop (length out - at) (drop at out)))
  steps_on h = record {
    held = h;
    filled = next_row w.filled w.place in_i (r.out_is ∙ ap (wrote (part_from out at)) row_same);
    place = onward w.filled w.place (r.length_is ∙ ap length row_same);
  }

-- ---- the path ends

module _ {file path old : List ℕ} {at i : ℕ} {states : List Carried} {versions stamps others out : List ℕ}
    (w : Walking file path old at i states versions stamps others out) (ends : steps path ≤ i) where
  over : i ≡ steps path
  over = omega (arith, w.filled.within)

  pub all_written : out ≡ wrote old (records_bytes (run_records file path))
  all_written = end w.filled ends ∙ ap (wrote old) (sym (records_bytes_lem file path))

  pub last_states : (b : ℕ) → b < arrays file → Reported (state_after file path b (steps path)) (carrying (get_or stamps b 0) (carried_of states b))
  last_states b in_b =
      let h = (w.held.stand b in_b).is in
      subst (λ (k : ℕ). Reported (state_after file path b k) (carrying (get_or stamps b 0) (carried_of states b))) over (record { is = h.is; stamp_is = h.stamp_is })
