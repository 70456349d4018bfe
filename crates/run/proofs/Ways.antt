-- The ways out of the call `run`: what the checks say, as the definition's answer.
-- Assumes nothing.
use Rattle.std.specs.Prelude.{Ok, Err}
use mathlib.Core.Path.{◌≡◌, refl, sym, ap, subst, ◌∙◌}
use mathlib.Core.Bool.{true, false}
use mathlib.Core.List.{List, ◌∷◌}
use Prim.Native.Nat.{ℕ, zero, suc, ◌≤◌, ◌<◌}
use native.Mathlib.Omega.{arith}
use borrow.Author.Tests.{le-leb, lt-leb, leb-true}
use lib.Dec.{leb}
use lib.ListN.{length, replicate, take}
use Rattle.calls.proofs.Checks.{no_calls_routine, no_calls_check, calls_expanded, expandable_calls, calls_referring, calls_routine}
use Rattle.calls.proofs.Calls.{routine_formed}
use Rattle.calls.specs.Calls.{has_calls}
use Rattle.calls.specs.Checks.{calls_check}
use Rattle.calls.specs.Expanded.{expanded, routine_of}
use Rattle.calls.specs.Referring.{referring}
use Rattle.demand.specs.Demand.{Demand3}
use Rattle.labels.specs.Checks.{check20, check21, programmer_check}
use Rattle.refusal.specs.Checks.{◌and_then◌, holds, Verdict}
use Rattle.routine.proofs.Accepted.{passed_read}
use Rattle.routine.specs.Reader.{read_check}
use Rattle.refusal.specs.Replies.{written, reply_outcome, Reply}
use Rattle.refusal.specs.declared.Refusal.{Refusal}
use Rattle.refusal.specs.declared.Refusal.TheVariants.{ShortReportBuffer}
use Rattle.refusal.proofs.Checks.{written_passed, passed_left, passed_right, holds_true}
use Rattle.returns.proofs.Returns.{demand3_calls, return_named}
use Rattle.returns.specs.Returns.{ReturnsNamed}
use Rattle.run.specs.Calls.{run_check, run_of, DemandMet, CountsMet, run_into, Ran, runner_check, Taken, RanRead}
use Rattle.path.proofs.Passes.{path_counts}
use Rattle.path.specs.Passes.{Counts}
use Rattle.path.specs.Paths.{path_check}
use Rattle.walk.specs.Report.{report_bytes, report_length}
use Rattle.words.specs.Tables.{wrote}

module _ (file path : List ℕ) (size : ℕ) {v : Verdict} (is : v ≡ programmer_check file) where
  -- 20 or 21
  pub run_denied : {r : Refusal} → v ≡ Err r → Err r ≡ written (runner_check file path size) (report_length file path)
  unfolding runner_check
  run_denied e = rw (← is, e)

  module _ (p : v ≡ Ok tt) {w : Verdict} (follows : w ≡ path_check file path) where
    -- 30 to 32
    pub run_path_denied : {r : Refusal} → w ≡ Err r → Err r ≡ written (runner_check file path size) (report_length file path)
    unfolding runner_check
    run_path_denied e = rw (← is, p, ← follows, e)

    -- 2
    pub run_short : w ≡ Ok tt → size < report_length file path → Err (ShortReportBuffer (report_length file path)) ≡ written (runner_check file path size) (report_length file path)
    unfolding runner_check
    run_short e h = rw (← is, p, ← follows, e, lt-leb (report_length file path) size h)

    pub run_written : w ≡ Ok tt → report_length file path ≤ size → Ok (report_length file path) ≡ written (runner_check file path size) (report_length file path)
    unfolding runner_check
    run_written e h = rw (← is, p, ← follows, e, le-leb (report_length file path) size h)

-- of a run that is refused nothing is said
pub none_taken : (routine path taken : List ℕ) {reply : Reply} {r : Refusal} → reply ≡ Err r → Taken reply routine path taken
none_taken routine path taken e = rw e tt

-- what is written is as long as is said
written_size : (v : Verdict) (m : ℕ) {n : ℕ} → written v m ≡ Ok n → n ≡ m
written_size (Ok tt) m e = cc
written_size (Err r) m e = absurd (let z : ◌≡◌ {A = ℕ} 0 1 = cc in omega arith)

-- the first of many zeros
pub few_zeros : (n m : ℕ) → n ≤ m → take n (replicate m 0) ≡ replicate {A = ℕ} n 0
few_zeros zero m h = refl
few_zeros (suc n) zero h = absurd (omega arith)
few_zeros (suc n) (suc m) h = ap (λ (l : List ℕ). 0 ∷ l) (few_zeros n m (omega arith))

-- ---- a run of a routine that was read, from its reply

module _ (file path before : List ℕ) {reply : Reply} (is : reply ≡ written (runner_check file path (length before)) (report_length file path)) where
  pub denied_ran : {r : Refusal} → reply ≡ Err r → RanRead file path before reply before
  denied_ran e = record { answer = is; buffer = rw e }

  -- all checks have passed
  module _ {n : ℕ} (e : reply ≡ Ok n) where
    all_passed : runner_check file path (length before) ≡ Ok tt
    all_passed = written_passed (runner_check file path (length before)) (report_length file path) (sym is ∙ e)

    -- 20 and 21
    pub run_passed : programmer_check file ≡ Ok tt
    unfolding runner_check
    run_passed = passed_left (programmer_check file) _ all_passed

    after_21 : (path_check file path and_then holds (leb (report_length file path) (length before)) (ShortReportBuffer (report_length file path))) ≡ Ok tt
    unfolding runner_check
    after_21 = passed_right (programmer_check file) _ all_passed

    -- 30 to 32
    pub run_follows : path_check file path ≡ Ok tt
    run_follows = passed_left (path_check file path) _ after_21

    -- the report's length, and it fits
    pub run_size : n ≡ report_length file path
    run_size = written_size (runner_check file path (length before)) (report_length file path) (sym is ∙ e)

    pub run_fits : n ≤ length before
    run_fits =
        omega (arith, run_size, leb-true (report_length file path) (length before) (holds_true _ _ (passed_right (path_check file path) _ after_21)))

    pub written_ran : {after : List ℕ} → after ≡ wrote before (report_bytes file path) → RanRead file path before reply after
    written_ran w = record { answer = is; buffer = rw e w }

-- ---- the call, for all lists of bytes

module _ (file path before : List ℕ) where
  -- a run that is made
  made : run_check file path (length before) ≡ Ok tt → Demand3 (routine_of file) path × ReturnsNamed file path × Counts (routine_of file) path
  unfolding run_check programmer_check
  made all =
      let read = passed_left (read_check file) _ all in
      let rest = passed_right (read_check file) _ all in
      let calls = passed_left (calls_check file) _ rest in
      let follows = passed_left (path_check (routine_of file) path) _ (passed_right (calls_check file) _ rest) in
      let can = expandable_calls file read calls in
      let both = calls_referring file read calls in (
        demand3_calls file can follows (passed_left (check20 (referring file)) (check21 (referring file)) both),
        return_named file can follows (passed_right (check20 (referring file)) (check21 (referring file)) both),
        path_counts path (routine_formed file can) follows,
      )

  demand : (reply : Reply) → reply ≡ run_of file path (length before) → DemandMet reply file path
  unfolding run_of
  demand (Ok n) e = let m = made (written_passed (run_check file path (length before)) (report_length (routine_of file) path) (sym e)) in (m.0, m.1)
  demand (Err r) e = tt

  counts : (reply : Reply) → reply ≡ run_of file path (length before) → CountsMet reply file path
  unfolding run_of
  counts (Ok n) e = (made (written_passed (run_check file path (length before)) (report_length (routine_of file) path) (sym e))).2
  counts (Err r) e = tt

  ran : {reply : Reply} {after : List ℕ} → reply ≡ run_of file path (length before) → after ≡ run_into reply file path before → Ran file path before reply after
  ran {reply} e b = record { answer = e; outcome = ap reply_outcome e; buffer = b; demand = demand reply e; counts = counts reply e }

  -- a refusal that is handed on
  denied : {reply : Reply} {r : Refusal} → run_check file path (length before) ≡ Err r → reply ≡ Err r → Ran file path before reply before
  unfolding run_of
  denied failed e = ran (e ∙ sym (rw failed)) (rw e)

  -- 10 to 19
  pub read_denied : {reply : Reply} {r : Refusal} → read_check file ≡ Err r → reply ≡ Err r → Ran file path before reply before
  unfolding run_check
  read_denied failed = denied (rw failed)

  module _ (read : read_check file ≡ Ok tt) where
    -- 22, 20 or 21
    pub calls_denied : {reply : Reply} {r : Refusal} → calls_check file ≡ Err r → reply ≡ Err r → Ran file path before reply before
    unfolding run_check
    calls_denied failed = denied (rw (read, failed))

    -- what is said of the routine is said of the file, where 22, 20 and 21 are what 20 and 21 are of the routine
    as_routine : {reply : Reply} {after : List ℕ} → calls_check file ≡ programmer_check (routine_of file) → RanRead (routine_of file) path before reply after → Ran file path before reply after
    unfolding run_of run_check runner_check
    as_routine same r = ran (r.answer ∙ sym (rw (read, same))) r.buffer

    -- no calls: the file is the routine
    pub plain_ran : {reply : Reply} {after : List ℕ} → has_calls file ≡ false → RanRead file path before reply after → Ran file path before reply after
    plain_ran {reply} {after} none r =
        let itself = sym (no_calls_routine file none) in
        as_routine (no_calls_check file none (passed_read file read) ∙ ap programmer_check itself) (subst (λ (s : List ℕ). RanRead s path before reply after) itself r)

    -- calls: the routine is the expanded one
    pub calls_ran : {reply : Reply} {after : List ℕ} → has_calls file ≡ true → calls_check file ≡ Ok tt → RanRead (expanded file) path before reply after → Ran file path before reply after
    calls_ran {reply} {after} some passed r =
        as_routine (passed ∙ sym (calls_routine file read passed)) (subst (λ (s : List ℕ). RanRead s path before reply after) (sym (calls_expanded file some)) r)
