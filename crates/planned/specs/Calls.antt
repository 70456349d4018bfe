-- What the call `plan` answers, and what it leaves in the buffer, for every list of bytes.
-- Assumes nothing.
use Rattle.std.specs.Prelude.{◌≡◌, List, ℕ, leb, length, Ok}
use Rattle.calls.specs.Checks.{check22, calls_check}
use Rattle.calls.specs.Expanded.{routine_of}
use Rattle.calls.specs.Referring.{referring}
use Rattle.labels.specs.Checks.{programmer_check}
use Rattle.labels.specs.Demand.{Demand2}
use Rattle.planbytes.specs.Plan.{plan_bytes, plan_length}
use Rattle.planbytes.specs.Tables.{Firsts}
use Rattle.refusal.specs.Checks.{◌and_then◌, holds, Verdict}
use Rattle.routine.specs.Reader.{read_check}
use Rattle.refusal.specs.Replies.{written, filled_by, reply_outcome, Reply}
use Rattle.refusal.specs.declared.Outcome.{Outcome}
use Rattle.refusal.specs.declared.Refusal.TheVariants.{ShortPlanBuffer}

-- ---- the call; a file with calls is planned as the routine that it expands to

-- checks run 10 to 19, then 22, 20, 21, then for a plan 1 where a buffer of `size` bytes is too short
unfoldable pub plan_check : List ℕ → ℕ → Verdict
unfolding read_check calls_check routine_of plan_length
plan_check file size =
    read_check file
    and_then calls_check file
    and_then holds (leb (plan_length (routine_of file)) size) (ShortPlanBuffer (plan_length (routine_of file)))

-- the reply to any file, with a buffer of `size` bytes
unfoldable pub plan_of : List ℕ → ℕ → Reply
unfolding plan_check routine_of plan_length
plan_of file size = written (plan_check file size) (plan_length (routine_of file))

-- the plan at the front of the buffer, or the buffer as it was
abbrev pub plan_into : Reply → List ℕ → List ℕ → List ℕ
plan_into reply file before = filled_by reply (plan_bytes (routine_of file)) before

-- its number and places
abbrev pub plan_outcome : List ℕ → ℕ → Outcome
plan_outcome file size = reply_outcome (plan_of file size)

-- of any list of bytes; and demand 2, where a routine is read: of the routine that is planned, 21 of the file with calls as references
pub record Planned (file before : List ℕ) (reply : Reply) (after : List ℕ) : Type 0 where
  pub answer : reply ≡ plan_of file (length before)
  pub outcome : reply_outcome reply ≡ plan_outcome file (length before)
  pub buffer : after ≡ plan_into reply file before
  pub demand : (read_check file and_then check22 file) ≡ Ok tt → Demand2 (routine_of file) (referring file)

-- ---- how the code keeps it: of a routine of document 01

-- 20, 21, then 1
unfoldable pub planner_check : List ℕ → ℕ → Verdict
unfolding programmer_check plan_length
planner_check routine size = programmer_check routine and_then holds (leb (plan_length routine) size) (ShortPlanBuffer (plan_length routine))

-- the reply, and where that is no refusal the table of first labels
pub record Replied (routine : List ℕ) (size : ℕ) (reply : Reply) (firsts : List ℕ) : Type 0 where
  pub answer : reply ≡ written (planner_check routine size) (plan_length routine)
  pub counts : (n : ℕ) → reply ≡ Ok n → Firsts routine firsts

-- the reply and the buffer
pub record PlannedRead (routine before : List ℕ) (reply : Reply) (after : List ℕ) : Type 0 where
  pub answer : reply ≡ written (planner_check routine (length before)) (plan_length routine)
  pub buffer : after ≡ filled_by reply (plan_bytes routine) before
