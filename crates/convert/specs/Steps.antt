-- How the code keeps it: what the steps of the call leave, of a file that 40 passes.
-- Assumes nothing.
use Rattle.std.specs.Prelude.{◌≡◌, List, ℕ, ◌≤◌, leb, length, take, Ok, Err}
use Rattle.labels.specs.Checks.{programmer_check}
use Rattle.mappings.specs.Computed.{check41, check42, converted}
use Rattle.refusal.specs.Checks.{◌and_then◌, holds, Verdict}
use Rattle.refusal.specs.Replies.{written, Reply}
use Rattle.refusal.specs.declared.Refusal.TheVariants.{ShortRoutineBuffer}
use Rattle.words.specs.Tables.{wrote}

-- 41, 42, 20, 21
unfoldable pub later_checks : List ℕ → Verdict
unfolding check41 check42 programmer_check converted
later_checks file = check41 file and_then check42 file and_then programmer_check (converted file)

-- the reply of all checks but 1, and where that is no refusal the routine at the front of `work`
pub record Prepared (file : List ℕ) (reply : Reply) (work : List ℕ) : Type 0 where
  pub answer : reply ≡ written (later_checks file) (length (converted file))
  pub routine : (n : ℕ) → reply ≡ Ok n → take n work ≡ converted file
  pub room : (n : ℕ) → reply ≡ Ok n → n ≤ length work

-- 1, after such a reply, and what then stands in the buffer
abbrev pub delivered : Reply → ℕ → Reply
delivered (Ok n) room = written (holds (leb n room) (ShortRoutineBuffer n)) n
delivered (Err r) room = Err r

abbrev pub delivered_into : Reply → List ℕ → List ℕ → List ℕ
delivered_into (Ok n) work before = wrote before (take n work)
delivered_into (Err r) work before = before
