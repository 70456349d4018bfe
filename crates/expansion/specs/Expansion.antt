-- Document 02, request 3: what becomes of a file with calls that was read.
-- Assumes nothing.
use Rattle.std.specs.Prelude.{◌≡◌, List, ℕ, Ok}
use Rattle.calls.specs.Checks.{calls_check}
use Rattle.calls.specs.Expanded.{expanded}
use Rattle.calls.specs.Referring.{referring}
use Rattle.calls.specs.Writing.{Arrivals}
use Rattle.checks.specs.declared.Judgement.{Judgement}
use Rattle.labels.specs.Checks.{programmer_check}
use Rattle.passes.specs.Counted.{BroughtStops, ReachedFirst}
use Rattle.routine.specs.Layout.{header_of}
use Rattle.routine.specs.Reader.{answered}
use Rattle.words.specs.Tables.{wrote}
use Rattle.expansion.specs.declared.Expanded.{Expanded}

-- how the code keeps it: 20 and 21 of the file with calls as references; where both pass the versions that arrive, and the numbers of rounds
pub record JudgedCalls (file : List ℕ) (answer : Judgement) (arrivals : List ℕ) : Type 0 where
  pub answers : answer.verdict ≡ programmer_check (referring file)
  pub arrivals_are : answer.verdict ≡ Ok tt → Arrivals file arrivals
  pub reached_first : answer.verdict ≡ Ok tt → ReachedFirst (referring file) answer.reached
  pub arriving_stops : answer.verdict ≡ Ok tt → BroughtStops (referring file) answer.brought

-- 22, 20 or 21; else the header of the expanded routine, which stands at the front of the buffer, and the numbers of rounds (document 02,
-- request 5). The rest of the buffer is left open
pub record Expansion (file : List ℕ) (result : Expanded) (after : List ℕ) : Type 0 where
  pub answers : result.answer ≡ answered (calls_check file) (header_of (expanded file))
  pub bytes : calls_check file ≡ Ok tt → (before : List ℕ) × (after ≡ wrote before (expanded file))
  pub reached_first : calls_check file ≡ Ok tt → ReachedFirst (referring file) result.reached
  pub arriving_stops : calls_check file ≡ Ok tt → BroughtStops (referring file) result.arriving
