-- What the C interface answers, and what it leaves in the buffer, for all bytes: the definitions' answers in numbers.
-- Assumes nothing.
use Rattle.std.specs.Prelude.{◌≡◌, List, ℕ, length, Ok, Err}
use Rattle.calls.specs.Checks.{check22}
use Rattle.calls.specs.Expanded.{routine_of}
use Rattle.calls.specs.Referring.{referring}
use Rattle.directives.specs.Fields.{check40}
use Rattle.labels.specs.Demand.{Demand2}
use Rattle.mappings.specs.Computed.{check41, check42}
use Rattle.mappings.specs.Convert.{convert_of, convert_outcome, convert_into}
use Rattle.mappings.specs.Demand.{MappingFaults, Demand4}
use Rattle.planned.specs.Calls.{plan_of, plan_outcome, plan_into}
use Rattle.refusal.specs.Checks.{◌and_then◌}
use Rattle.refusal.specs.declared.Outcome.{Outcome}
use Rattle.refusal.specs.declared.Refusal.{Refusal}
use Rattle.rounds.specs.Calls.{PassBytes, rounds_of, rounds_outcome}
use Rattle.routine.specs.Reader.{read_check}
use Rattle.run.specs.Calls.{run_of, run_outcome, run_into, DemandMet, CountsMet}
use Rattle.words.specs.Tables.{wrote}

-- what hpf_plan answers and leaves
pub record PlannedC (file before : List ℕ) (outcome : Outcome) (after : List ℕ) : Type 0 where
  pub answer : outcome ≡ plan_outcome file (length before)
  pub buffer : after ≡ plan_into (plan_of file (length before)) file before
  pub demand : (read_check file and_then check22 file) ≡ Ok tt → Demand2 (routine_of file) (referring file)

-- what hpf_rounds answers and leaves
pub record RoundedC (file before : List ℕ) (outcome : Outcome) (after : List ℕ) : Type 0 where
  pub answer : outcome ≡ rounds_outcome file (length before)
  pub numbers : (n : ℕ) → rounds_of file (length before) ≡ Ok n → (bytes : List ℕ) × PassBytes file bytes × (after ≡ wrote before bytes)
  pub unwritten : (r : Refusal) → rounds_of file (length before) ≡ Err r → after ≡ before

-- what hpf_run answers and leaves
pub record RanC (file path before : List ℕ) (outcome : Outcome) (after : List ℕ) : Type 0 where
  pub answer : outcome ≡ run_outcome file path (length before)
  pub buffer : after ≡ run_into (run_of file path (length before)) file path before
  pub demand : DemandMet (run_of file path (length before)) file path
  pub counts : CountsMet (run_of file path (length before)) file path

-- what hpf_convert answers and leaves
pub record ConvertedC (file before : List ℕ) (outcome : Outcome) (after : List ℕ) : Type 0 where
  pub answer : outcome ≡ convert_outcome file (length before)
  pub buffer : after ≡ convert_into (convert_of file (length before)) file before
  pub faults : check40 file ≡ Ok tt → MappingFaults file
  pub demand : (check40 file and_then check41 file and_then check42 file) ≡ Ok tt → Demand4 file
