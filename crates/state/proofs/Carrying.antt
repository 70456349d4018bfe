-- Laws of a carried state: a label, a reference, the start and the exit do to it what the rules say.
-- Assumes nothing.
use mathlib.Core.Path.{◌≡◌, refl, sym, ap, ap₂, subst, ◌∙◌}
use mathlib.Core.Bool.{Bool, true, false, not, ◌&&◌, ◌||◌, cond, true≢false, or-true, or-false, and-false}
use mathlib.Core.List.{List}
use mathlib.Core.Logic.{inl}
use Prim.Native.Nat.{ℕ, ◌+◌, ◌*◌, ◌<◌, ◌^◌}
use native.Mathlib.Omega.{arith}
use lib.Bits.{bit_and, bit_or}
use borrow.Author.Tests.{eqb-true, eqb-false, eq-eqb, ne_eqb, not-false}
use lib.Dec.{T, eqb}
use lib.ListN.{length, get_or, set, replicate, length-set}
use lib.Seq.{get_or-set_same, get_or-set_other}
use Rattle.labels.specs.declared.Use.{Use}
use Rattle.labels.specs.Uses.{is_n}
use Rattle.routine.specs.Actions.{is_reference, is_remap}
use Rattle.routine.specs.Arrays.{is_argument, is_in, is_in_or_inout}
use Rattle.routine.specs.declared.action.Access.{Access}
use Rattle.routine.specs.declared.action.Action.{Action}
use Rattle.routine.specs.declared.action.Action.TheVariants.{Nothing, Reference, Remap, Unknown}
use Rattle.routine.specs.declared.array.ArrayRecord.{ArrayRecord}
use Rattle.sets.specs.Sets.{width, has, minus}
use Rattle.sets.proofs.Laws.{has_or, has-minus, has_with, has_single, has_zero, has-cond, minus_minus}
use Rattle.words.specs.Tables.{table}
use Rattle.words.proofs.Tables.{zeros_at, table-length, table_at}
use Rattle.words.proofs.Tests.{at_cond, by_test, and_right, or_cases}
use Rattle.state.specs.declared.Carried.{Carried}
use Rattle.state.specs.Carrying.{whole, bare, carrying, Carries, Sound, stored, Labelled, row_of, OtherRows, Relabelled}
use Rattle.state.specs.Cleaning.{current_set, dying, callers, cleaned}
use Rattle.state.specs.Exit.{left}
use Rattle.state.specs.Moves.{moves, copies_stamp, target_stamp, taken_up, moved}
use Rattle.state.specs.References.{referenced}
use Rattle.state.specs.Computed.{no_copies, single_copy, target_stamp_by, taken, shifted, cleaned_by, stored_at}
use Rattle.state.specs.Stamps.{stamp_after, stamp_by}
use Rattle.state.specs.Start.{started}
use Rattle.state.specs.States.{State, nothing, has_current, stamp_of, stamped, emptied, one_copy, Current}
use Rattle.state.specs.Vertex.{Ready, labelled, visited, relabelled}
use Rattle.state.proofs.Exit.{callers_own, left-callers}
use Rattle.state.proofs.Labels.{current_has, cleared_keeps}
use Rattle.state.proofs.States.{current_below, below_current, copies_current}

-- ---- the cleaning

-- the current copy does not die
current_stays : (own keep : ℕ) (s : State) → has_current s ≡ true → has (minus (dying keep s) own) s.current ≡ false
current_stays own keep s h =
    let there : has (current_set s) s.current ≡ true = current_has s s.current ∙ ap₂ ◌&&◌ h (eq-eqb s.current s.current refl) in
    simp (has-minus, has_or, there, or-true, and-false)

-- what is live after the cleaning, or the caller's, loses no stamp
spares_stamp : (l d o : Bool) → (l && not d || o) ≡ true → (d && not o) ≡ false
spares_stamp l true true h = refl
spares_stamp l false o h = refl
spares_stamp true true false h = absurd (true≢false (sym h))
spares_stamp false true false h = absurd (true≢false (sym h))

-- and was so before
counted_before : (l d o : Bool) → (l && not d || o) ≡ true → (l || o) ≡ true
counted_before true d o h = refl
counted_before false d o h = h

module _ (own keep : ℕ) (c : Carried) (row : ℕ → ℕ) (stamps : List ℕ) (h : Carries own (whole c stamps) c row) where
  abbrev dead : ℕ
  dead = dying keep (bare c)

  cleaned_carries : Carries own (cleaned own keep (whole c stamps)) (cleaned_by keep c) row
  unfolding cleaned cleaned_by
  cleaned_carries = record {
    is = refl;
    stamp_is = λ e. h.stamp_is e ∙ sym (cleared_keeps (minus dead own) stamps width c.current (current_stays own keep (bare c) e));
    row_is = λ k in-k counts ne.
        let kept : (has c.live k && not (has dead k) || has own k) ≡ true = ap (λ (b : Bool). b || has own k) (sym (has-minus c.live dead k)) ∙ counts in
        h.row_is k in-k (counted_before (has c.live k) (has dead k) (has own k) kept) ne
        ∙ sym (cleared_keeps (minus dead own) stamps width k (has-minus dead own k ∙ spares_stamp (has c.live k) (has dead k) (has own k) kept));
  }

-- ---- a version's stamp, by what is carried and the row

stored_same : {own : ℕ} {c : Carried} {row : ℕ → ℕ} {stamps : List ℕ} → Carries own (whole c stamps) c row
    → (k : ℕ) → k < width → (has c.live k || has own k) ≡ true → stored c row k ≡ get_or stamps k 0
stored_same {own} {c} {row} {stamps} h k in-k counts =
    at_cond (λ (x : ℕ). x ≡ get_or stamps k 0) (eqb c.current k)
    (λ e.
    let same = eqb-true c.current k e in
    h.stamp_is (below_current (bare c) (omega arith)) ∙ ap (λ (j : ℕ). get_or stamps j 0) same)
    (λ e. h.row_is k in-k counts (eqb-false c.current k e))

-- ---- the move

module _ (own : ℕ) (u : Use) (t held : ℕ) (c : Carried) (row : ℕ → ℕ) (stamps : List ℕ) (h : Carries own (whole c stamps) c row)
    (below : t < width) (wide : length stamps ≡ width) (is_held_lem : held ≡ row t) where
  abbrev s : State
  s = whole c stamps

  abbrev y : ℕ
  unfolding copies_stamp
  y = target_stamp u t (stamp_of s s.current) s

  other : moves u t s ≡ true → c.current ≡ t → ⊥
  other m e = true≢false (sym (and_right (not (is_n u)) _ m) ∙ ap not (eq-eqb c.current t e))

  target_same : moves u t s ≡ true → target_stamp_by t (copies_stamp u t (bare c)) held c ≡ y
  unfolding copies_stamp
  target_same m =
      by_test (copies_stamp u t s)
      (λ e. rw e (h.stamp_is (copies_current u t s e)))
      (λ e. rw e (by_test (has c.live t)
      (λ l. rw l (is_held_lem ∙ h.row_is t below (ap (λ (b : Bool). b || has own t) l) (other m)))
      (λ l. rw l)))

  -- what counts once the target is taken up counted before
  counted_then : (k : ℕ) → (has (bit_or c.live (2 ^ t)) k || has own k) ≡ true → (t ≡ k → ⊥) → (has c.live k || has own k) ≡ true
  counted_then k counts ne =
      ap (λ (b : Bool). b || has own k) (sym (has_with c.live t k ∙ ap (λ (b : Bool). has c.live k || b) (ne_eqb t k ne) ∙ or-false (has c.live k))) ∙ counts

  taken_carries : moves u t s ≡ true → Carries own (stamped y (taken_up u t s)) (taken t (copies_stamp u t (bare c)) held c) (stored c row)
  unfolding copies_stamp
  taken_carries m = record {
    is = refl;
    stamp_is = λ _. target_same m ∙ sym (get_or-set_same stamps t y 0 (omega (arith, wide)));
    row_is = λ k in-k counts ne. stored_same h k in-k (counted_then k counts ne) ∙ sym (get_or-set_other stamps t k y 0 (λ e. ne (sym e)));
  }

  still_carries : Carries own s c (stored c row)
  still_carries = record { is = refl; stamp_is = h.stamp_is; row_is = λ k in-k counts ne. stored_same h k in-k counts }

  moved_carries : Carries own (moved u t s) (shifted u t held c) (stored c row)
  unfolding moved shifted
  moved_carries =
      let P : Bool → Type 0 = λ (b : Bool). Carries own (cond b (stamped y (taken_up u t s)) s) (cond b (taken t (copies_stamp u t (bare c)) held c) c) (stored c row) in
      by_test (moves u t s) (λ m. subst P (sym m) (taken_carries m)) (λ m. subst P (sym m) still_carries)

-- ---- a label

module _ {own : ℕ} {s : State} {c : Carried} {row : ℕ → ℕ} (h : Carries own s c row) where
  whole_carries : Carries own (whole c s.stamps) c row
  whole_carries = subst (λ (s : State). Carries own s c row) h.is h

  cleaned_of : (keep : ℕ) → Carries own (cleaned own keep s) (cleaned_by keep c) row
  cleaned_of keep =
      subst (λ (s : State). Carries own (cleaned own keep s) (cleaned_by keep c) row) (sym h.is) (cleaned_carries own keep c row s.stamps whole_carries)

  moved_of : (u : Use) (t held : ℕ) → t < width → length s.stamps ≡ width → held ≡ row t → Carries own (moved u t s) (shifted u t held c) (stored c row)
  moved_of u t held below wide is_held_lem =
      subst (λ (s : State). Carries own (moved u t s) (shifted u t held c) (stored c row)) (sym h.is)
      (moved_carries own u t held c row s.stamps whole_carries below wide is_held_lem)

-- from what the code has
pub labelled_is : (u : Use) (t keep held : ℕ) (c : Carried) {u' : Use} {m n : Carried} → t < width → u' ≡ u → m ≡ shifted u' t held c → n ≡ cleaned_by keep m
    → Labelled u t keep held c n
labelled_is u t keep held c below e f g = record {
  rule = λ own s row ready h is_held_lem.
      subst (λ (n : Carried). Carries own (cleaned own keep (moved u t s)) n (stored c row))
      (sym (g ∙ ap (cleaned_by keep) (f ∙ ap (λ (u : Use). shifted u t held c) e)))
      (cleaned_of (moved_of h u t held below ready.wide is_held_lem) keep);
}

pub shifted_current : (u : Use) (t held : ℕ) (c : Carried) → Current (bare c) → t < width → Current (bare (shifted u t held c))
unfolding shifted
shifted_current u t held c current below = at_cond (λ (n : Carried). Current (bare n)) (moves u t (bare c)) (λ _. inl below) (λ _. current)

-- ---- by what the code computes

module _ (u : Use) (t held : ℕ) (c : Carried) where
  pub shifted_is : (takes copied : Bool) (n : Carried) → takes ≡ moves u t (bare c) → copied ≡ copies_stamp u t (bare c) → n ≡ taken t copied held c
      → cond takes n c ≡ shifted u t held c
  unfolding shifted
  shifted_is takes copied n e f g = simp (e, g, f)

pub cleaned_is : (keep : ℕ) (c : Carried) {current : ℕ} → current ≡ current_set (bare c)
    → ◌≡◌ {A = Carried} (record { current = c.current; live = bit_and c.live (bit_or keep current); copies = c.copies; stamp = c.stamp }) (cleaned_by keep c)
unfolding cleaned_by
cleaned_is keep c {current} e = rw (sym (minus_minus c.live (bit_or keep current)), e)

-- ---- a reference

-- what a reference does at a vertex, and nothing else
abbrev pub referred : Action → ℕ → State → State
unfolding referenced
referred Nothing step s = s
referred (Reference x) step s = referenced x step s
referred (Remap t) step s = s
referred Unknown step s = s

module _ (own : ℕ) (c : Carried) (row : ℕ → ℕ) (stamps : List ℕ) (h : Carries own (whole c stamps) c row)
    (below : c.current < width) (wide : length stamps ≡ width) (x : Access) (step : ℕ) where
  abbrev after : ℕ
  after = stamp_after x step (get_or stamps c.current 0)

  referenced_carries : Carries own (referenced x step (whole c stamps)) (carrying (stamp_after x step c.stamp) c) row
  unfolding referenced
  referenced_carries = record {
    is = refl;
    stamp_is = λ e. ap (stamp_after x step) (h.stamp_is e) ∙ sym (get_or-set_same stamps c.current after 0 (omega (arith, wide)));
    row_is = λ k in-k counts ne. h.row_is k in-k counts ne ∙ sym (get_or-set_other stamps c.current k after 0 (λ e. ne (sym e)));
  }

module _ {own : ℕ} {s : State} {c : Carried} {row : ℕ → ℕ} (h : Carries own s c row) (wide : length s.stamps ≡ width) (step : ℕ) where
  pub referred_carries : (x : Action) → (T (is_reference x) → s.current < width) → Carries own (referred x step s) (carrying (stamp_by x step c.stamp) c) row
  unfolding referenced
  referred_carries Nothing below = h
  referred_carries (Reference x) below =
      subst (λ (s : State). Carries own (referenced x step s) (carrying (stamp_after x step c.stamp) c) row) (sym h.is)
      (referenced_carries own c row s.stamps (whole_carries h) (subst (λ (s : State). s.current < width) h.is (below tt)) wide x step)
  referred_carries (Remap t) below = h
  referred_carries Unknown below = h

-- a state stays ready
pub referred_ready : (x : Action) (step : ℕ) (s : State) → Ready s → Ready (referred x step s)
unfolding referenced
referred_ready Nothing step s h = h
referred_ready (Reference x) step s h =
    record { current = h.current; wide = length-set s.stamps s.current (stamp_after x step (stamp_of s s.current)) ∙ h.wide; few_copies = h.few_copies }
referred_ready (Remap t) step s h = h
referred_ready Unknown step s h = h

-- references first, then labels
pub visited_is : (r : ArrayRecord) (u : Use) (keep step : ℕ) (s : State) (x : Action) → relabelled r x u keep (referred x step s) ≡ visited r x u keep step s
unfolding labelled referenced
visited_is r u keep step s Nothing = refl
visited_is r u keep step s (Reference x) = refl
visited_is r u keep step s (Remap t) = refl
visited_is r u keep step s Unknown = refl

-- without a label nothing changes
pub no_label : (r : ArrayRecord) (u : Use) (keep : ℕ) (s : State) (x : Action) → is_remap x ≡ false → relabelled r x u keep s ≡ s
unfolding labelled
no_label r u keep s Nothing e = refl
no_label r u keep s (Reference x) e = refl
no_label r u keep s (Remap t) e = absurd (true≢false e)
no_label r u keep s Unknown e = refl

-- ---- the start and the exit

callers-has : (r : ArrayRecord) (k : ℕ) → has (callers r) k ≡ true → r.initial ≡ k
callers-has r k e =
    eqb-true r.initial k (sym (has_single r.initial k) ∙ and_right (is_argument r.kind) _ (sym (has-cond (is_argument r.kind) (2 ^ r.initial) k) ∙ e))

emptied_carries : (own copies : ℕ) (row : ℕ → ℕ) → ((k : ℕ) → has own k ≡ true → row k ≡ 0) → Carries own (emptied copies) (no_copies copies) row
emptied_carries own copies row zeros = record {
  is = refl;
  stamp_is = λ e. absurd (true≢false (sym e));
  row_is = λ k in-k counts ne. zeros k (ap (λ (b : Bool). b || has own k) (sym (has_zero k)) ∙ counts) ∙ sym (zeros_at width k);
}

one_carries : (own k stamp copies : ℕ) (row : ℕ → ℕ) → k < width → ((j : ℕ) → has own j ≡ true → k ≡ j)
    → Carries own (one_copy k stamp copies) (single_copy k stamp copies) row
one_carries own k stamp copies row below alone = record {
  is = refl;
  stamp_is = λ _. sym (get_or-set_same (replicate width 0) k stamp 0 below);
  row_is = λ j in-j counts ne. absurd (ne (or_cases (has (2 ^ k) j) (has own j) (λ h. eqb-true k j (sym (has_single k j) ∙ h)) (alone j) counts));
}

module _ (r : ArrayRecord) (row : ℕ → ℕ) where
  pub started_out : {c : Carried} → is_in_or_inout r.kind ≡ false → c ≡ no_copies 0 → row r.initial ≡ 0 → Carries (callers r) (started r) c row
  started_out {c} e f z =
      subst (λ (c : Carried). Carries (callers r) (started r) c row) (sym f)
      (rw e (emptied_carries (callers r) 0 row (λ k h. ap row (sym (callers-has r k h)) ∙ z)))

  pub started_in : {c : Carried} → is_in_or_inout r.kind ≡ true → r.initial < width → c ≡ single_copy r.initial 65535 0 → Carries (callers r) (started r) c row
  started_in e below f =
      subst (λ (c : Carried). Carries (callers r) (started r) c row) (sym f) (rw e (one_carries (callers r) r.initial 65535 0 row below (callers-has r)))

module _ (r : ArrayRecord) {s : State} {c : Carried} {row : ℕ → ℕ} (h : Carries (callers r) s c row) where
  pub left_argument : is_in r.kind ≡ false → is_argument r.kind ≡ true → Carries (callers r) (left r true s) c row
  left_argument e f =
      subst (λ (b : Bool). Carries (callers r) (cond b (one_copy r.initial (stamp_of s r.initial) s.copies) (cond (is_argument r.kind) s (emptied s.copies))) c row) (sym e)
      (subst (λ (b : Bool). Carries (callers r) (cond b s (emptied s.copies)) c row) (sym f) h)

  pub left_own : {n : Carried} → r.initial < width → is_in r.kind ≡ true → n ≡ single_copy r.initial (stored c row r.initial) c.copies → Carries (callers r) (left r true s) n row
  left_own {n} below e f =
      let own : has (callers r) r.initial ≡ true = callers_own r e in
      let stamp : stored c row r.initial ≡ stamp_of s r.initial = stored_same (whole_carries h) r.initial below (ap (λ (b : Bool). has c.live r.initial || b) own ∙ or-true (has c.live r.initial)) in
      let copies : c.copies ≡ s.copies = sym (ap (λ (s : State). s.copies) h.is) in
      subst (λ (s' : State). Carries (callers r) s' n row) (sym (left-callers r e s))
      (subst (λ (n : Carried). Carries (callers r) (one_copy r.initial (stamp_of s r.initial) s.copies) n row) (sym (f ∙ ap₂ (single_copy r.initial) stamp copies))
      (one_carries (callers r) r.initial (stamp_of s r.initial) s.copies row below (callers-has r)))

  pub left_none : {n : Carried} → is_in r.kind ≡ false → is_argument r.kind ≡ false → n ≡ no_copies c.copies → Carries (callers r) (left r true s) n row
  left_none e f g =
      subst (λ (n : Carried). Carries (callers r) (left r true s) n row) (sym g)
      (rw (e, f) (subst (λ (k : ℕ). Carries (cond false (2 ^ r.initial) 0) (emptied k) (no_copies c.copies) row) (sym (ap (λ (s : State). s.copies) h.is))
      (emptied_carries 0 c.copies row (λ k g. absurd (true≢false (sym g ∙ has_zero k))))))

-- ---- the table of all rows

pub carries_as : {own : ℕ} {s : State} {c : Carried} {row row' : ℕ → ℕ} → ((k : ℕ) → k < width → row' k ≡ row k) → Carries own s c row → Carries own s c row'
carries_as same h = record { is = h.is; stamp_is = h.stamp_is; row_is = λ k in-k counts ne. same k in-k ∙ h.row_is k in-k counts ne }

module _ (c : Carried) (a : ℕ) (others : List ℕ) (current : Current (bare c)) (in_a : a < 8) (sized : length others ≡ 8 * width) where
  abbrev place : ℕ
  place = width * a + c.current

  stored_row : (k : ℕ) → k < width → row_of (stored_at c a others) a k ≡ stored c (row_of others a) k
  stored_row k in-k =
      at_cond (λ (l : List ℕ). row_of l a k ≡ stored c (row_of others a) k) (has_current (bare c))
      (λ h.
      let below = current_below (bare c) current h in
      at_cond (λ (x : ℕ). row_of (set others place c.stamp) a k ≡ x) (eqb c.current k)
      (λ e. ap (λ (j : ℕ). row_of (set others place c.stamp) a j) (sym (eqb-true c.current k e)) ∙ get_or-set_same others place c.stamp 0 (omega (arith, sized)))
      (λ e. get_or-set_other others place (width * a + k) c.stamp 0 (λ g. eqb-false c.current k e (omega arith))))
      (λ h.
      let gone : c.current ≡ nothing = eqb-true c.current nothing (not-false _ h) in
      ap (λ (b : Bool). cond b c.stamp (row_of others a k)) (sym (ne_eqb c.current k (λ e. omega arith))))

  stored_else : OtherRows a others (stored_at c a others)
  stored_else b k ne in-k =
      at_cond (λ (l : List ℕ). row_of l b k ≡ row_of others b k) (has_current (bare c))
      (λ h.
      let below = current_below (bare c) current h in
      get_or-set_other others place (width * b + k) c.stamp 0 (λ g. ne (omega arith)))
      (λ _. refl)

  pub relabelled_is : {x : Action} {t : ℕ} (u : Use) (keep : ℕ) {n : Carried} {new : List ℕ} → x ≡ Remap t → new ≡ stored_at c a others
      → Labelled u t keep (row_of others a t) c n → Relabelled x u keep a c others n new
  unfolding labelled
  relabelled_is {x} {t} u keep {n} {new} e f l =
      subst (λ (x : Action). Relabelled x u keep a c others n new) (sym e) (subst (λ (new : List ℕ). Relabelled (Remap t) u keep a c others n new) (sym f) (record {
        sized = at_cond (λ (l : List ℕ). length l ≡ length others) (has_current (bare c)) (λ _. length-set others place c.stamp) (λ _. refl);
        other_rows = stored_else;
        rule = λ r s ready h. carries_as stored_row (l.rule (callers r) s (row_of others a) ready h refl);
      }))

pub not-labelled : (x : Action) (u : Use) (keep a : ℕ) (c : Carried) (others : List ℕ) → is_remap x ≡ false → Relabelled x u keep a c others c others
not-labelled x u keep a c others e = record {
  sized = refl;
  other_rows = λ b k ne in-k. refl;
  rule = λ r s ready h. subst (λ (s : State). Carries (callers r) s c (row_of others a)) (sym (no_label r u keep s x e)) h;
}

-- ---- a sound carried state with its row carries some state that is ready, so that what is said of a label is said of something

pub record Meant (own : ℕ) (c : Carried) (row : ℕ → ℕ) : Type 0 where
  pub state : State
  pub ready : Ready state
  pub carries : Carries own state c row

pub meant : (own : ℕ) (c : Carried) (row : ℕ → ℕ) → Sound c → Meant own c row
meant own c row sound = record {
  state = whole c (table (stored c row) width);
  ready = record { current = sound.current; wide = table-length (stored c row) width; few_copies = sound.few_copies };
  carries = record {
    is = refl;
    stamp_is = λ e.
        sym (table_at (stored c row) width c.current (current_below (bare c) sound.current e) ∙ ap (λ (b : Bool). cond b c.stamp (row c.current)) (eq-eqb c.current c.current refl));
    row_is = λ k in-k counts ne. sym (table_at (stored c row) width k in-k ∙ ap (λ (b : Bool). cond b c.stamp (row k)) (ne_eqb c.current k ne));
  };
}
