-- Laws of the exit's rule.
-- Assumes nothing.
use mathlib.Core.Path.{◌≡◌, refl, sym, ap, ◌∙◌}
use mathlib.Core.Bool.{Bool, true, false, cond, false≢true}
use Prim.Native.Nat.{ℕ, ◌^◌}
use borrow.Author.Tests.{eqb-true, eq-eqb, not-false}
use Rattle.routine.specs.Arrays.{is_argument, is_in, is_out_or_inout}
use Rattle.routine.specs.declared.array.ArrayRecord.{ArrayRecord}
use Rattle.sets.specs.Sets.{has}
use Rattle.sets.proofs.Laws.{has_single}
use Rattle.words.proofs.Tests.{at_cond}
use Rattle.state.specs.Cleaning.{callers}
use Rattle.state.specs.Exit.{left}
use Rattle.state.specs.States.{State, stamp_of, emptied, one_copy}

module _ (r : ArrayRecord) (b : Bool) (s : State) where
  -- what holds on each way through it: the caller's copy alone, no copies, or the state as it was
  pub at_left : (P : State → Type 0) → (b ≡ true → is_in r.kind ≡ true → P (one_copy r.initial (stamp_of s r.initial) s.copies))
      → (b ≡ true → is_argument r.kind ≡ false → P (emptied s.copies)) → P s → P (left r b s)
  at_left P own none still = at_cond P b (λ e. at_cond P (is_in r.kind) (own e) (λ _. at_cond P (is_argument r.kind) (λ _. still) (none e))) (λ _. still)

  -- out and inout stay as they are
  pub left_stays : is_out_or_inout r.kind ≡ true → left r b s ≡ s
  left_stays k =
      at_left (λ (s' : State). s' ≡ s)
      (λ _ e. absurd (false≢true (ap is_out_or_inout (sym (eqb-true r.kind 1 e)) ∙ k)))
      (λ _ e. absurd (false≢true (ap is_out_or_inout (sym (eqb-true r.kind 0 (not-false _ e))) ∙ k))) refl

  -- no copy is counted
  pub left_copies : (left r b s).copies ≡ s.copies
  left_copies = at_left (λ (s' : State). s'.copies ≡ s.copies) (λ _ _. refl) (λ _ _. refl) refl

-- ---- an in argument

module _ (r : ArrayRecord) (is-in : is_in r.kind ≡ true) where
  -- its initial version belongs to the caller
  pub callers_own : has (callers r) r.initial ≡ true
  callers_own =
      ap (λ (k : ℕ). has (cond (is_argument k) (2 ^ r.initial) 0) r.initial) (eqb-true r.kind 1 is-in)
      ∙ has_single r.initial r.initial ∙ eq-eqb r.initial r.initial refl

  -- and is what is left of it
  pub left-callers : (s : State) → left r true s ≡ one_copy r.initial (stamp_of s r.initial) s.copies
  left-callers s = ap (λ (b : Bool). cond b (one_copy r.initial (stamp_of s r.initial) s.copies) (cond (is_argument r.kind) s (emptied s.copies))) is-in
