-- Each wrong program of "How a contract is judged" (c) breaks its contract: by its reply, or by one byte.
-- Assumes nothing.
use Rattle.std.specs.Prelude.{Ok, Err}
use mathlib.Core.Path.{◌≡◌, refl, sym, ap, ◌∙◌}
use mathlib.Core.List.{List}
use Prim.Native.Nat.{ℕ}
use native.Mathlib.Omega.{arith}
use lib.Count.{ones}
use lib.ListN.{get_or}
use Rattle.cases.specs.Cases.{P, path2}
use Rattle.cases.specs.Faults.{zeros, RefusesAll, P_with_nothing, PlanOfPForAll, WritesNoPlan, InventsRecords, InventsCopies, CountsFirstStep, WritesNoReport}
use Rattle.calls.specs.Expanded.{routine_of}
use Rattle.planned.specs.Calls.{plan_of, Planned}
use Rattle.refusal.specs.Replies.{filled_by, Reply}
use Rattle.planbytes.specs.Plan.{plan_bytes}
use Rattle.run.specs.Calls.{Ran}
use Rattle.walk.specs.Report.{report_bytes}
use Rattle.words.specs.Tables.{wrote}
use Rattle.words.specs.Words.{word}
use Rattle.cases.proofs.Cases.{all_hold}

-- ---- a call that answers what is said, and fills the buffer by its answer

-- it leaves one reply and one buffer
once : (bytes before : List ℕ) {said reply reply' : Reply} {after after' : List ℕ} → reply ≡ said → after ≡ filled_by reply bytes before
    → reply' ≡ said → after' ≡ filled_by reply' bytes before → (reply ≡ reply') × (after ≡ after')
once bytes before e b f c =
    let same = e ∙ sym f in
    (same, b ∙ ap (λ (r : Reply). filled_by r bytes before) same ∙ sym c)

-- where it succeeds, the bytes that were to be written
byte : (bytes before : List ℕ) {said reply : Reply} {n : ℕ} {written after : List ℕ} → said ≡ Ok n → bytes ≡ written
    → reply ≡ said → after ≡ filled_by reply bytes before → (i : ℕ) → get_or after i 0 ≡ get_or (wrote before written) i 0
byte bytes before says is e b i = ap (λ (l : List ℕ). get_or l i 0) (b ∙ ap (λ (r : Reply). filled_by r bytes before) (e ∙ says) ∙ ap (wrote before) is)

pub planned_once : {file before after after' : List ℕ} {reply reply' : Reply} → Planned file before reply after → Planned file before reply' after'
    → (reply ≡ reply') × (after ≡ after')
planned_once {file} {before} h k = once (plan_bytes (routine_of file)) before h.answer h.buffer k.answer k.buffer

pub ran_once : {file path before after after' : List ℕ} {reply reply' : Reply} → Ran file path before reply after → Ran file path before reply' after'
    → (reply ≡ reply') × (after ≡ after')
ran_once {file} {path} {before} h k = once (report_bytes (routine_of file) path) before h.answer h.buffer k.answer k.buffer

-- ---- planners

-- 1 where bytes were written
abbrev success : Reply → ℕ
success (Ok n) = 1
success (Err r) = 0

pub refuses_all : RefusesAll
refuses_all r after h = absurd (omega (arith, ap success (h.answer ∙ all_hold.0.0)))

-- byte 53 is the letter of vertex 2
pub plan_of_p_for_all : PlanOfPForAll
unfolding routine_of plan_of plan_bytes word ones
plan_of_p_for_all reply h =
    absurd (omega (arith, byte (plan_bytes (routine_of P_with_nothing)) (zeros 88) {n = 88} refl refl h.answer h.buffer 53))

pub writes_no_plan : WritesNoPlan
writes_no_plan reply h = absurd (omega (arith, byte (plan_bytes (routine_of P)) (zeros 88) all_hold.0.0 all_hold.0.2 h.answer h.buffer 0))

-- ---- runners

-- byte 16 is the new stamp of the first record
pub invents_records : InventsRecords
invents_records reply h = absurd (omega (arith, byte (report_bytes (routine_of P) path2) (zeros 64) all_hold.1.0.0 all_hold.1.0.4 h.answer h.buffer 16))

pub invents_copies : InventsCopies
invents_copies reply h = absurd (omega (arith, byte (report_bytes (routine_of P) path2) (zeros 64) all_hold.1.0.0 all_hold.1.0.4 h.answer h.buffer 0))

-- byte 48 is the count of the first edge
pub counts_first_step : CountsFirstStep
counts_first_step reply h = absurd (omega (arith, byte (report_bytes (routine_of P) path2) (zeros 64) all_hold.1.0.0 all_hold.1.0.4 h.answer h.buffer 48))

pub writes_no_report : WritesNoReport
writes_no_report reply h = absurd (omega (arith, byte (report_bytes (routine_of P) path2) (zeros 64) all_hold.1.0.0 all_hold.1.0.4 h.answer h.buffer 0))
