-- Document 02, request 4: what the call `convert` answers and leaves in the buffer.
-- Assumes nothing.
use Rattle.std.specs.Prelude.{◌≡◌, List, ℕ, leb, length, Ok}
use Rattle.labels.specs.Checks.{programmer_check}
use Rattle.refusal.specs.Checks.{◌and_then◌, holds, Verdict}
use Rattle.refusal.specs.Replies.{written, filled_by, reply_outcome, Reply}
use Rattle.refusal.specs.declared.Outcome.{Outcome}
use Rattle.refusal.specs.declared.Refusal.TheVariants.{ShortRoutineBuffer}
use Rattle.directives.specs.Fields.{check40}
use Rattle.mappings.specs.Computed.{check41, check42, converted}
use Rattle.mappings.specs.Demand.{MappingFaults, Demand4}

-- 40, 41, 42, then 20 and 21 on the converted routine
unfoldable pub directives_check : List ℕ → Verdict
unfolding check40 check41 check42 programmer_check converted
directives_check file = check40 file and_then check41 file and_then check42 file and_then programmer_check (converted file)

-- last, 1 for a short output buffer
unfoldable pub convert_check : List ℕ → ℕ → Verdict
unfolding directives_check converted
convert_check file room = directives_check file and_then holds (leb (length (converted file)) room) (ShortRoutineBuffer (length (converted file)))

-- the reply to any file, with a buffer of `room` bytes
unfoldable pub convert_of : List ℕ → ℕ → Reply
unfolding convert_check converted
convert_of file room = written (convert_check file room) (length (converted file))

-- the routine at the front of the buffer, or the buffer as it was
abbrev pub convert_into : Reply → List ℕ → List ℕ → List ℕ
convert_into reply file before = filled_by reply (converted file) before

-- its number and places
abbrev pub convert_outcome : List ℕ → ℕ → Outcome
convert_outcome file room = reply_outcome (convert_of file room)

-- of any list of bytes: number, places, length and every byte
pub record Converts (file before : List ℕ) (reply : Reply) (after : List ℕ) : Type 0 where
  pub answer : reply ≡ convert_of file (length before)
  pub outcome : reply_outcome reply ≡ convert_outcome file (length before)
  pub buffer : after ≡ convert_into reply file before
  -- what 41 and 42 say where 40 passes
  pub faults : check40 file ≡ Ok tt → MappingFaults file
  -- where all three pass: at each reference the mapping that the directives give is that of the version which the routine names
  pub demand : (check40 file and_then check41 file and_then check42 file) ≡ Ok tt → Demand4 file
