-- The ways out of the call `plan`: what the checks say, as the definition's answer.
-- Assumes nothing.
use Rattle.std.specs.Prelude.{Ok, Err}
use mathlib.Core.Path.{◌≡◌, refl, sym, ap, subst, ◌∙◌}
use mathlib.Core.Bool.{true, false}
use mathlib.Core.List.{List}
use Prim.Native.Nat.{ℕ, ◌≤◌, ◌<◌}
use native.Mathlib.Omega.{arith}
use borrow.Author.Tests.{le-leb, lt-leb, leb-true}
use lib.ListN.{length}
use Rattle.calls.proofs.Calls.{demand2_calls}
use Rattle.calls.proofs.Checks.{no_calls_routine, no_calls_check, calls_routine, calls_expanded}
use Rattle.calls.proofs.Interfaces.{expandable}
use Rattle.calls.specs.Calls.{has_calls}
use Rattle.calls.specs.Checks.{check22, calls_check}
use Rattle.calls.specs.Expanded.{expanded, routine_of}
use Rattle.calls.specs.Referring.{referring}
use Rattle.labels.specs.Checks.{programmer_check}
use Rattle.labels.specs.Demand.{Demand2}
use Rattle.planned.specs.Calls.{plan_check, plan_of, plan_into, Planned, planner_check, PlannedRead}
use Rattle.planbytes.specs.Plan.{plan_bytes, plan_length}
use Rattle.planbytes.proofs.Sizes.{plan_length_lem}
use Rattle.refusal.specs.Checks.{◌and_then◌, Verdict}
use Rattle.refusal.specs.Replies.{written, filled_by, reply_outcome, Reply}
use Rattle.refusal.specs.declared.Refusal.{Refusal}
use Rattle.refusal.specs.declared.Refusal.TheVariants.{ShortPlanBuffer}
use Rattle.refusal.proofs.Checks.{written_passed, passed_left, passed_right, holds_true}
use Rattle.routine.proofs.Accepted.{passed_read}
use Rattle.routine.specs.Reader.{read_check}
use Rattle.words.specs.Tables.{wrote}

-- a refusal is no plan
pub not_written : {A : Type 0} {r : Refusal} {n : ℕ} → Err r ≡ Ok n → A
not_written e = absurd (let z : ◌≡◌ {A = ℕ} 0 1 = cc in omega arith)

module _ (file : List ℕ) (size : ℕ) {v : Verdict} (is : v ≡ programmer_check file) where
  -- 20 or 21
  pub plan_denied : {r : Refusal} → v ≡ Err r → Err r ≡ written (planner_check file size) (plan_length file)
  unfolding planner_check
  plan_denied e = rw (← is, e)

  -- 1
  pub plan_short : v ≡ Ok tt → size < plan_length file → Err (ShortPlanBuffer (plan_length file)) ≡ written (planner_check file size) (plan_length file)
  unfolding planner_check
  plan_short e h = rw (← is, e, lt-leb (plan_length file) size h)

  pub plan_written : v ≡ Ok tt → plan_length file ≤ size → Ok (plan_length file) ≡ written (planner_check file size) (plan_length file)
  unfolding planner_check
  plan_written e h = rw (← is, e, le-leb (plan_length file) size h)

-- ---- a plan of a routine that was read, from its reply

module _ (file before : List ℕ) {reply : Reply} (is : reply ≡ written (planner_check file (length before)) (plan_length file)) where
  pub denied_planned : {r : Refusal} → reply ≡ Err r → PlannedRead file before reply before
  denied_planned e = record { answer = is; buffer = subst (λ (r : Reply). before ≡ filled_by r (plan_bytes file) before) (sym e) refl }

  -- all checks have passed
  module _ {n : ℕ} (e : reply ≡ Ok n) where
    checks_passed : planner_check file (length before) ≡ Ok tt
    checks_passed = written_passed (planner_check file (length before)) (plan_length file) (sym is ∙ e)

    pub plan_passed : programmer_check file ≡ Ok tt
    unfolding planner_check
    plan_passed = passed_left (programmer_check file) _ checks_passed

    pub plan_fits : length (plan_bytes file) ≤ length before
    unfolding planner_check
    plan_fits = omega (arith, plan_length_lem file, leb-true (plan_length file) (length before) (holds_true _ _ (passed_right (programmer_check file) _ checks_passed)))

    pub written_planned : {after : List ℕ} → after ≡ wrote before (plan_bytes file) → PlannedRead file before reply after
    written_planned {after} w = record { answer = is; buffer = subst (λ (r : Reply). after ≡ filled_by r (plan_bytes file) before) (sym e) w }

-- ---- the call, for every list of bytes

module _ (file before : List ℕ) where
  demand : (read_check file and_then check22 file) ≡ Ok tt → Demand2 (routine_of file) (referring file)
  demand e = demand2_calls file (expandable file (passed_left (read_check file) (check22 file) e) (passed_right (read_check file) (check22 file) e))

  planned : {reply : Reply} {after : List ℕ} → reply ≡ plan_of file (length before) → after ≡ plan_into reply file before → Planned file before reply after
  planned e b = record { answer = e; outcome = ap reply_outcome e; buffer = b; demand = demand }

  -- a refusal that is handed on
  denied : {reply : Reply} {r : Refusal} → plan_check file (length before) ≡ Err r → reply ≡ Err r → Planned file before reply before
  unfolding plan_of
  denied failed e = planned (e ∙ sym (rw failed)) (subst (λ (r : Reply). before ≡ plan_into r file before) (sym e) refl)

  -- 10 to 19
  pub read_denied : {reply : Reply} {r : Refusal} → read_check file ≡ Err r → reply ≡ Err r → Planned file before reply before
  unfolding plan_check
  read_denied failed = denied (rw failed)

  module _ (read : read_check file ≡ Ok tt) where
    -- 22, 20 or 21
    pub calls_denied : {reply : Reply} {r : Refusal} → calls_check file ≡ Err r → reply ≡ Err r → Planned file before reply before
    unfolding plan_check
    calls_denied failed = denied (rw (read, failed))

    -- what is said of the routine is said of the file, where 22, 20 and 21 are what 20 and 21 are of the routine
    as_routine : {reply : Reply} {after : List ℕ} → calls_check file ≡ programmer_check (routine_of file) → PlannedRead (routine_of file) before reply after → Planned file before reply after
    unfolding plan_of plan_check planner_check
    as_routine same p = planned (p.answer ∙ sym (rw (read, same))) p.buffer

    -- no calls: the file is the routine
    pub plain_planned : {reply : Reply} {after : List ℕ} → has_calls file ≡ false → PlannedRead file before reply after → Planned file before reply after
    plain_planned {reply} {after} none p =
        let itself = sym (no_calls_routine file none) in
        as_routine (no_calls_check file none (passed_read file read) ∙ ap programmer_check itself) (subst (λ (s : List ℕ). PlannedRead s before reply after) itself p)

    -- calls: the routine is the expanded one
    pub calls_planned : {reply : Reply} {after : List ℕ} → has_calls file ≡ true → calls_check file ≡ Ok tt → PlannedRead (expanded file) before reply after → Planned file before reply after
    calls_planned {reply} {after} some passed p =
        as_routine (passed ∙ sym (calls_routine file read passed)) (subst (λ (s : List ℕ). PlannedRead s before reply after) (sym (calls_expanded file some)) p)
