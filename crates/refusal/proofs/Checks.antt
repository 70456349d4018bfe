-- Laws of checks in a row, and of scans for the first item that fails.
-- Assumes nothing.
use Rattle.std.specs.Prelude.{Result, Ok, Err, IsErr, IsErrAnd}
use Rattle.std.proofs.lemmas.Result.{err_from_is_err_and}
use mathlib.Core.Path.{◌≡◌, refl, sym, ap, ap₂, ◌∙◌}
use mathlib.Core.Bool.{Bool, true, false, not, ◌||◌, cond}
use mathlib.Core.Logic.{◌↔◌}
use Prim.Native.Nat.{ℕ, zero, suc, ◌+◌, ◌-◌, ◌≤◌, ◌<◌}
use native.Mathlib.Nat.{add-zero, zero-add}
use native.Mathlib.Omega.{arith}
use borrow.Author.Tests.{leb-true, ltb-true, eqb-true, eqb-false, not-true, not-false}
use Rattle.words.proofs.Tests.{and_left, and_right}
use Rattle.refusal.specs.declared.Refusal.{Refusal}
use Rattle.refusal.specs.Checks.{Verdict, ◌and_then◌, holds, first_failed}
use Rattle.refusal.specs.Replies.{written}

-- ---- checks in a row

-- v is what the first check says: a failure is the row's answer, and after a pass the rest answers
pub fails : {v w : Verdict} {r : Refusal} (rest : Verdict) → v ≡ w → v ≡ Err r → v ≡ (w and_then rest)
fails rest is e = rw (← is, e)

pub passes : {v w x rest : Verdict} → v ≡ w → v ≡ Ok tt → x ≡ rest → x ≡ (w and_then rest)
passes is e next = rw (← is, e) next

-- at the exit of a `?` the result is the refusal of the check that failed
pub exits : {A : Type 0} {r : Result A Refusal} {e : Refusal} → IsErr r × IsErrAnd r (λ x. x ≡ e) → r ≡ Err e
exits {r} p = let q = err_from_is_err_and r p.1 in q.1 ∙ ap Err q.2

pub exit_fails : {v w r : Verdict} {e : Refusal} (rest : Verdict) → v ≡ w → v ≡ Err e → IsErr r × IsErrAnd r (λ x. x ≡ e) → r ≡ (w and_then rest)
exit_fails rest is e p = exits p ∙ sym e ∙ fails rest is e

-- a check that passes adds nothing behind others
pub then_passed : (v : Verdict) → (v and_then (Ok tt)) ≡ v
then_passed (Ok tt) = refl
then_passed (Err r) = refl

pub then_assoc : (u v w : Verdict) → ((u and_then v) and_then w) ≡ (u and_then v and_then w)
then_assoc (Ok tt) v w = refl
then_assoc (Err r) v w = refl

-- a call that writes has passed its checks
pub written_passed : (v : Verdict) (m : ℕ) {n : ℕ} → written v m ≡ Ok n → v ≡ Ok tt
written_passed (Ok tt) m e = refl
written_passed (Err r) m e = cc

-- two tests are one, with the refusal of the first that fails
pub holds_or : (a b : Bool) (r s : Refusal) → (holds (not a) r and_then holds (not b) s) ≡ holds (not (a || b)) (cond a r s)
holds_or true b r s = refl
holds_or false b r s = refl

-- ---- what a row that passes tells of its parts

pub passed_left : (v w : Verdict) → (v and_then w) ≡ Ok tt → v ≡ Ok tt
passed_left (Ok tt) w e = refl
passed_left (Err r) w e = e

pub passed_right : (v w : Verdict) → (v and_then w) ≡ Ok tt → w ≡ Ok tt
passed_right (Ok tt) w e = e
passed_right (Err r) w e = cc

pub holds_true : (b : Bool) (r : Refusal) → holds b r ≡ Ok tt → b ≡ true
holds_true true r e = refl
holds_true false r e = cc

-- each test of the row, and the fact that it stands for
pub ruleset parts = (passed_left, passed_right, holds_true, and_left, and_right, not-true, not-false, leb-true, ltb-true, eqb-true, eqb-false)

-- ---- a scan for the first item that fails

-- the scan goes on at i: what is left decides
pub record Undecided (item : ℕ → Verdict) (n i : ℕ) : Type 0 where
  pub within : i ≤ n
  pub rest : first_failed item 0 n ≡ first_failed item i (n - i)

module _ {item : ℕ → Verdict} {n i : ℕ} (u : Undecided item n i) where
  -- the item at i, and then those after it
  head : i < n → first_failed item 0 n ≡ (item i and_then first_failed item (i + 1) (n - (i + 1)))
  unfolding first_failed
  head h =
      let e : n - i ≡ suc (n - (i + 1)) = omega arith in
      u.rest ∙ ap (first_failed item i) e

  -- v is what the item at i says
  pub scan_stop : {v : Verdict} {r : Refusal} → i < n → v ≡ item i → v ≡ Err r → v ≡ first_failed item 0 n
  scan_stop h is e = fails _ is e ∙ sym (head h)

  -- the same at the exit of a `?`
  pub scan_exit : {v r : Verdict} {e : Refusal} → i < n → v ≡ item i → v ≡ Err e → IsErr r × IsErrAnd r (λ x. x ≡ e) → r ≡ first_failed item 0 n
  scan_exit h is e p = exits p ∙ sym e ∙ scan_stop h is e

  pub scan_next : {v : Verdict} → i < n → v ≡ item i → v ≡ Ok tt → Undecided item n (i + 1)
  scan_next h is e = record { within = omega arith; rest = head h ∙ sym (passes is e refl) }

  pub scan_done : n ≤ i → (Ok tt) ≡ first_failed item 0 n
  unfolding first_failed
  scan_done h =
      let e : n - i ≡ 0 = omega arith in
      sym (u.rest ∙ ap (first_failed item i) e)

pub scan_start : (item : ℕ → Verdict) (n : ℕ) → Undecided item n 0
scan_start item n =
    let e : n ≡ n - 0 = omega arith in
    record { within = omega arith; rest = ap (first_failed item 0) e }

-- ---- scans of the same items are the same

pub scan_alike : {item other : ℕ → Verdict} → ((i : ℕ) → item i ≡ other i) → (from n : ℕ) → first_failed item from n ≡ first_failed other from n
unfolding first_failed
scan_alike same from zero = refl
scan_alike same from (suc n) = ap₂ ◌and_then◌ (same from) (scan_alike same (from + 1) n)

-- ---- what a scan says: it passes exactly if every item passes, and fails with r exactly if the first item that fails does so with r

record FirstAt (item : ℕ → Verdict) (from n : ℕ) (r : Refusal) : Type 0 where
  at : ℕ
  within : at < n
  fails_there : item (from + at) ≡ Err r
  passed_before : (i : ℕ) → i < at → item (from + i) ≡ Ok tt

module _ (item : ℕ → Verdict) where
  -- an item counted from the next one on
  next_item : (from i : ℕ) → item (from + suc i) ≡ item (from + 1 + i)
  next_item from i =
      let e : from + suc i ≡ from + 1 + i = omega arith in
      ap item e

  -- the last item behind the others
  pub first_last : (from n : ℕ) → first_failed item from (suc n) ≡ (first_failed item from n and_then item (from + n))
  unfolding first_failed
  first_last from zero = rw add-zero (then_passed (item from))
  first_last from (suc n) =
      ap (λ (w : Verdict). item from and_then w) (first_last (from + 1) n)
      ∙ sym (then_assoc (item from) _ _)
      ∙ ap (λ (w : Verdict). first_failed item from (suc n) and_then w) (sym (next_item from n))

  -- the items from the next one on, as items of their own
  pub shift : (from n : ℕ) → first_failed item (from + 1) n ≡ first_failed (λ i. item (i + 1)) from n
  unfolding first_failed
  shift from zero = refl
  shift from (suc n) = ap (λ (v : Verdict). item (from + 1) and_then v) (shift (from + 1) n)

  -- the first item passes, and so do those from the next one on
  onward : (from n : ℕ) → item from ≡ Ok tt → ((i : ℕ) → i < n → item (from + 1 + i) ≡ Ok tt) → (i : ℕ) → i < suc n → item (from + i) ≡ Ok tt
  onward from n p all zero h = rw add-zero p
  onward from n p all (suc i) h = next_item from i ∙ all i (omega arith)

  scan_passed : (from n : ℕ) → first_failed item from n ≡ Ok tt → (i : ℕ) → i < n → item (from + i) ≡ Ok tt
  unfolding first_failed
  scan_passed from zero e = λ i h. absurd (omega arith)
  scan_passed from (suc n) e =
      onward from n (passed_left (item from) _ e) (scan_passed (from + 1) n (passed_right (item from) _ e))

  passed_scan : (from n : ℕ) → ((i : ℕ) → i < n → item (from + i) ≡ Ok tt) → first_failed item from n ≡ Ok tt
  unfolding first_failed
  passed_scan from zero all = refl
  passed_scan from (suc n) all =
      rw (rw add-zero at (all 0 (omega arith)))
      (passed_scan (from + 1) n (λ i h. sym (next_item from i) ∙ all (suc i) (omega arith)))

  scan_failed : (from n : ℕ) {r : Refusal} → first_failed item from n ≡ Err r → FirstAt item from n r
  unfolding first_failed
  scan_failed from zero e = absurd (let z : ◌≡◌ {A = ℕ} 0 1 = cc in omega arith)
  scan_failed from (suc n) {r} e = go (item from) refl e (scan_failed (from + 1) n)
    where
      go : (v : Verdict) → item from ≡ v → (v and_then first_failed item (from + 1) n) ≡ Err r → (first_failed item (from + 1) n ≡ Err r → FirstAt item (from + 1) n r) → FirstAt item from (suc n) r
      go (Ok tt) p e later =
          let f = later e in
          record {
            at = suc f.at;
            within = omega arith;
            fails_there = next_item from f.at ∙ f.fails_there;
            passed_before = onward from f.at p f.passed_before;
          }
      go (Err s) p e later =
          record {
            at = 0;
            within = omega arith;
            fails_there = rw add-zero (p ∙ e);
            passed_before = λ i h. absurd (omega arith);
          }

  failed_from : (from n k : ℕ) {r : Refusal} → k < n → item (from + k) ≡ Err r → ((i : ℕ) → i < k → item (from + i) ≡ Ok tt) → first_failed item from n ≡ Err r
  unfolding first_failed
  failed_from from zero k h e all = absurd (omega arith)
  failed_from from (suc n) zero h e all =
      let f = rw add-zero at e in
      sym (fails _ refl f) ∙ f
  failed_from from (suc n) (suc k) h e all =
      rw (rw add-zero at (all 0 (omega arith)))
      (failed_from (from + 1) n k (omega arith) (sym (next_item from k) ∙ e) (λ i h. sym (next_item from i) ∙ all (suc i) (omega arith)))

  -- from the first item on
  pub each_passed : (n : ℕ) → first_failed item 0 n ≡ Ok tt → (i : ℕ) → i < n → item i ≡ Ok tt
  each_passed n e i h = rw zero-add at (scan_passed 0 n e i h)

  pub all_passed : (n : ℕ) → ((i : ℕ) → i < n → item i ≡ Ok tt) → first_failed item 0 n ≡ Ok tt
  all_passed n all = passed_scan 0 n (λ i h. rw zero-add (all i h))

  pub scan_failed_iff : (n : ℕ) (r : Refusal)
      → (first_failed item 0 n ≡ Err r) ↔ ((i : ℕ) × (i < n) × (item i ≡ Err r) × ((j : ℕ) → j < i → item j ≡ Ok tt))
  scan_failed_iff n r = (
    λ e. let f = scan_failed 0 n e in (f.at, f.within, rw zero-add at f.fails_there, λ j h. rw zero-add at (f.passed_before j h)),
    λ p. failed_from 0 n p.0 p.1 (rw zero-add p.2) (λ j h. rw zero-add (p.3 j h)),
  )
