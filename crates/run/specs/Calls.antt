-- What the call `run` answers, and what it leaves in the buffer, for all lists of bytes.
-- Assumes nothing.
use Rattle.std.specs.Prelude.{◌≡◌, List, ℕ, leb, length, Ok, Err}
use Rattle.calls.specs.Checks.{calls_check}
use Rattle.calls.specs.Expanded.{routine_of}
use Rattle.labels.specs.Checks.{programmer_check}
use Rattle.refusal.specs.Checks.{◌and_then◌, holds, Verdict}
use Rattle.routine.specs.Layout.{edges}
use Rattle.routine.specs.Reader.{read_check}
use Rattle.refusal.specs.Replies.{written, filled_by, reply_outcome, Reply}
use Rattle.refusal.specs.declared.Outcome.{Outcome}
use Rattle.refusal.specs.declared.Refusal.TheVariants.{ShortReportBuffer}
use Rattle.demand.specs.Demand.{Demand3}
use Rattle.path.specs.Passes.{passes_of, Counts}
use Rattle.path.specs.Paths.{path_check}
use Rattle.returns.specs.Returns.{ReturnsNamed}
use Rattle.walk.specs.Report.{report_bytes, report_length}
use Rattle.words.specs.Tables.{table}

-- ---- the call; of a file with calls, the routine that it expands to is run

-- checks run 10 to 19, then 22, 20, 21, for a run 30 to 32, then 2 where a buffer of `size` bytes is too short
unfoldable pub run_check : List ℕ → List ℕ → ℕ → Verdict
unfolding read_check calls_check routine_of path_check report_length
run_check file path size =
    read_check file
    and_then calls_check file
    and_then path_check (routine_of file) path
    and_then holds (leb (report_length (routine_of file) path) size) (ShortReportBuffer (report_length (routine_of file) path))

-- the reply to any file and path, with a buffer of `size` bytes
unfoldable pub run_of : List ℕ → List ℕ → ℕ → Reply
unfolding run_check routine_of report_length
run_of file path size = written (run_check file path size) (report_length (routine_of file) path)

-- where the run is made, demand 3 of the routine that is run; and calls remap back to the versions that the source names before them
abbrev pub DemandMet : Reply → List ℕ → List ℕ → Type 0
DemandMet (Ok n) file path = Demand3 (routine_of file) path × ReturnsNamed file path
DemandMet (Err r) file path = Unit {0}

-- where the run is made, the counts of the edges of the routine that is run: their total is the path's length less one
abbrev pub CountsMet : Reply → List ℕ → List ℕ → Type 0
CountsMet (Ok n) file path = Counts (routine_of file) path
CountsMet (Err r) file path = Unit {0}

-- the report at the front of the buffer, or the buffer as it was
abbrev pub run_into : Reply → List ℕ → List ℕ → List ℕ → List ℕ
run_into reply file path before = filled_by reply (report_bytes (routine_of file) path) before

-- its number and places
abbrev pub run_outcome : List ℕ → List ℕ → ℕ → Outcome
run_outcome file path size = reply_outcome (run_of file path size)

-- of any lists of bytes
pub record Ran (file path before : List ℕ) (reply : Reply) (after : List ℕ) : Type 0 where
  pub answer : reply ≡ run_of file path (length before)
  pub outcome : reply_outcome reply ≡ run_outcome file path (length before)
  pub buffer : after ≡ run_into reply file path before
  pub demand : DemandMet reply file path
  pub counts : CountsMet reply file path

-- ---- how the code keeps it: of a routine of document 01

-- 20, 21, 30 to 32, then 2
unfoldable pub runner_check : List ℕ → List ℕ → ℕ → Verdict
unfolding programmer_check path_check report_length
runner_check routine path size =
    programmer_check routine
    and_then path_check routine path
    and_then holds (leb (report_length routine path) size) (ShortReportBuffer (report_length routine path))

-- where the run is made, how often each edge is passed
abbrev pub Taken : Reply → List ℕ → List ℕ → List ℕ → Type 0
Taken (Ok n) routine path taken = taken ≡ table (passes_of routine path) (edges routine)
Taken (Err r) routine path taken = Unit {0}

-- the reply and the buffer
pub record RanRead (routine path before : List ℕ) (reply : Reply) (after : List ℕ) : Type 0 where
  pub answer : reply ≡ written (runner_check routine path (length before)) (report_length routine path)
  pub buffer : after ≡ filled_by reply (report_bytes routine path) before
