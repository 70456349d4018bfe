-- Document 01, "Plan and report": success is 0 and the length written; bytes beyond it keep their contents; a refusal writes no byte.
-- Assumes nothing.
use Rattle.std.specs.Prelude.{List, ℕ, Result, Ok, Err}
use Rattle.words.specs.Tables.{wrote}
use Rattle.refusal.specs.declared.Outcome.{Outcome}
use Rattle.refusal.specs.declared.Refusal.{Refusal}
use Rattle.refusal.specs.Checks.{Verdict}
use Rattle.refusal.specs.Refusals.{refused, outcome_of}

-- what a call answers: the length written, or the refusal
abbrev pub Reply : Type 0
Reply = Result ℕ Refusal

-- a call that writes n bytes where its checks pass
abbrev pub written : Verdict → ℕ → Reply
written (Ok _) n = Ok n
written (Err r) n = Err r

-- what a call that is to write `bytes` leaves in a buffer
abbrev pub filled_by : Reply → List ℕ → List ℕ → List ℕ
filled_by (Ok n) bytes before = wrote before bytes
filled_by (Err r) bytes before = before

-- number, first place, second place
abbrev pub reply_outcome : Reply → Outcome
reply_outcome (Ok n) = refused 0 n 0
reply_outcome (Err r) = outcome_of r
