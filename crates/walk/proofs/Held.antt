-- The arrays' states as they are held along the path: one more is filled in; and the stamps after references.
-- Assumes nothing.
use mathlib.Core.Path.{◌≡◌, refl, sym, ap, ap₂, subst, ◌∙◌}
use mathlib.Core.Bool.{false, true≢false}
use mathlib.Core.List.{List, []}
use Prim.Native.Nat.{ℕ, ◌+◌, ◌*◌, ◌≤◌, ◌<◌}
use native.Mathlib.Omega.{arith}
use borrow.Author.Count.{below_more}
use lib.ListN.{length, get_or, set, length-set}
use lib.Seq.{get_or-set_same, get_or-set_other}
use Rattle.labels.specs.Events.{event}
use Rattle.routine.specs.Actions.{is_reference}
use Rattle.routine.specs.Layout.{arrays}
use Rattle.routine.specs.declared.action.Action.{Action}
use Rattle.routine.specs.declared.action.Action.TheVariants.{Nothing, Reference, Remap, Unknown}
use Rattle.routine.specs.Arrays.{array_of}
use Rattle.sets.specs.Sets.{width}
use Rattle.state.specs.Carrying.{carrying, Carries, row_of, OtherRows}
use Rattle.state.specs.Cleaning.{callers}
use Rattle.state.specs.Stamps.{stamp_by}
use Rattle.state.specs.States.{State}
use Rattle.state.specs.declared.Carried.{Carried}
use Rattle.state.proofs.Carrying.{carries_as}
use Rattle.report.specs.Records.{records_at}
use Rattle.report.specs.Bytes.{carried_of, records_bytes}
use Rattle.walk.specs.Walks.{Stands, Held, cell_bytes, row_bytes, stamp_at, Referred}
use Rattle.words.specs.Tables.{replaced, wrote}
use Rattle.words.proofs.Replaced.{replaced-length, replaced_at, replaced_still}
use Rattle.words.proofs.Tables.{rows_empty}

-- ---- states

stands_as : {own : ℕ} {want : State} {c c' : Carried} {version version' stamp stamp' : ℕ} {row row' : ℕ → ℕ} → c' ≡ c → version' ≡ version → stamp' ≡ stamp
    → ((k : ℕ) → k < width → row' k ≡ row k) → Stands own want c version stamp row → Stands own want c' version' stamp' row'
stands_as {own} {want} {c} {c'} {version} {version'} {stamp} {stamp'} {row} e f g same h = record {
  is = carries_as same (subst (λ (d : Carried). Carries own want d row) (sym (ap₂ carrying g e)) h.is);
  version_is = f ∙ h.version_is ∙ ap (λ (d : Carried). d.current) (sym e);
}

-- one more state is filled in, and its row of stamps
pub hold_more : {file : List ℕ} {want : ℕ → State} {a : ℕ} {states : List Carried} {versions stamps others others' : List ℕ} (c : Carried)
    → Held file want a states versions stamps others → a < 8 → length others' ≡ 8 * width → OtherRows a others others'
    → Carries (callers (array_of file a)) (want a) c (row_of others' a)
    → Held file want (a + 1) (set states a c) (set versions a c.current) (set stamps a c.stamp) others'
hold_more {file} {want} {a} {states} {versions} {stamps} {others} {others'} c h in_a sized same is = record {
  states_sized = length-set states a c ∙ h.states_sized;
  versions_sized = length-set versions a c.current ∙ h.versions_sized;
  stamps_sized = length-set stamps a c.stamp ∙ h.stamps_sized;
  others_sized = sized;
  stand =
      below_more (λ b. Stands (callers (array_of file b)) (want b) (carried_of (set states a c) b) (get_or (set versions a c.current) b 0) (get_or (set stamps a c.stamp) b 0) (row_of others' b)) a
      (λ b in_b. let ne : b ≡ a → ⊥ = λ e. omega arith in
      stands_as (get_or-set_other states a b c _ ne) (get_or-set_other versions a b c.current 0 ne) (get_or-set_other stamps a b c.stamp 0 ne) (λ k in-k. same b k ne in-k) (h.stand b in_b))
      (stands_as (get_or-set_same states a c _ (omega (arith, h.states_sized))) (get_or-set_same versions a c.current 0 (omega (arith, h.versions_sized)))
      (get_or-set_same stamps a c.stamp 0 (omega (arith, h.stamps_sized))) (λ k in-k. refl) (record { is = is; version_is = refl }));
}

-- the states, stamps and rows from array a on are as they were
pub record Untouched (a : ℕ) (states₀ : List Carried) (stamps₀ others₀ : List ℕ) (states : List Carried) (stamps others : List ℕ) : Type 0 where
  pub states_same : (b : ℕ) → a ≤ b → carried_of states b ≡ carried_of states₀ b
  pub stamps_same : (b : ℕ) → a ≤ b → get_or stamps b 0 ≡ get_or stamps₀ b 0
  pub rows_same : (b k : ℕ) → a ≤ b → k < width → row_of others b k ≡ row_of others₀ b k

pub untouched_more : {a : ℕ} {states₀ states : List Carried} {stamps₀ stamps others₀ others others' : List ℕ} (c : Carried) → Untouched a states₀ stamps₀ others₀ states stamps others
    → OtherRows a others others'
    → Untouched (a + 1) states₀ stamps₀ others₀ (set states a c) (set stamps a c.stamp) others'
untouched_more {a} {states₀} {states} {stamps₀} {stamps} {others₀} {others} {others'} c u same = record {
  states_same = λ b h. get_or-set_other states a b c _ (λ e. omega arith) ∙ u.states_same b (omega arith);
  stamps_same = λ b h. get_or-set_other stamps a b c.stamp 0 (λ e. omega arith) ∙ u.stamps_same b (omega arith);
  rows_same = λ b k h in-k. same b k (λ e. omega arith) in-k ∙ u.rows_same b k (omega arith) in-k;
}

-- ---- references

module _ (file : List ℕ) (v step : ℕ) (before : List ℕ) where
  -- the stamps after a vertex's references
  pub after-length : {after : List ℕ} → after ≡ replaced before 0 (stamp_at file v step before) (arrays file) → length after ≡ length before
  after-length e = ap length e ∙ replaced-length before 0 (stamp_at file v step before) (arrays file)

  pub after_at : {after : List ℕ} → after ≡ replaced before 0 (stamp_at file v step before) (arrays file) → arrays file ≤ length before
      → (b : ℕ) → b < arrays file → get_or after b 0 ≡ stamp_at file v step before b
  after_at e room b in_b =
      ap (λ (l : List ℕ). get_or l b 0) e ∙ replaced_at before 0 (stamp_at file v step before) 0 (arrays file) b (omega arith) in_b (omega arith)

-- ---- a vertex without references

no_record : (x : Action) (step a version stamp : ℕ) → is_reference x ≡ false → records_bytes (records_at x step a version stamp) ≡ []
no_record Nothing step a version stamp e = refl
no_record (Reference y) step a version stamp e = absurd (true≢false e)
no_record (Remap t) step a version stamp e = refl
no_record Unknown step a version stamp e = refl

stamp_stays : (x : Action) (step stamp : ℕ) → is_reference x ≡ false → stamp_by x step stamp ≡ stamp
stamp_stays Nothing step stamp e = refl
stamp_stays (Reference y) step stamp e = absurd (true≢false e)
stamp_stays (Remap t) step stamp e = refl
stamp_stays Unknown step stamp e = refl

module _ (file : List ℕ) (v step : ℕ) (versions before old : List ℕ) (none : (b : ℕ) → b < arrays file → is_reference (event file b v) ≡ false) where
  no_row : row_bytes file v step versions before ≡ []
  unfolding row_bytes
  no_row =
      rows_empty (cell_bytes file v step versions before) (arrays file)
      (λ a h. no_record (event file a v) step a (get_or versions a 0) (get_or before a 0) (none a h))

  pub nothing_referred : Referred file v step versions before old 0 before old
  nothing_referred = record {
    length_is = ap length (sym no_row);
    out_is = ap (wrote old) (sym no_row);
    stamps_are = sym (replaced_still before 0 (stamp_at file v step before) 0 (arrays file)
        (λ a h. stamp_stays (event file a v) step (get_or before a 0) (none a h) ∙ ap (λ (i : ℕ). get_or before i 0) (let e : a ≡ 0 + a = omega arith in e)));
  }
