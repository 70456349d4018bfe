-- Document 02, request 5: what the call `rounds` answers and leaves in the buffer, for every list of bytes. A number is the rounds of a pass;
-- the rules leave open in which order a round takes the edges, and so which number it is (`StopsAfter`).
-- Assumes nothing.
use Rattle.std.specs.Prelude.{◌≡◌, true, false, cond, List, ◌++◌, ℕ, leb, length, Ok, Err}
use Rattle.calls.specs.Calls.{has_calls}
use Rattle.calls.specs.Checks.{calls_check}
use Rattle.calls.specs.Expanded.{expanded}
use Rattle.calls.specs.Referring.{referring}
use Rattle.labels.specs.Checks.{programmer_check}
use Rattle.passes.specs.Counted.{LettersStop, ReachingStops, KeptStops, BroughtStops, ReachedFirst}
use Rattle.refusal.specs.Checks.{◌and_then◌, holds, Verdict}
use Rattle.refusal.specs.Replies.{written, reply_outcome, Reply}
use Rattle.refusal.specs.declared.Outcome.{Outcome}
use Rattle.refusal.specs.declared.Refusal.{Refusal}
use Rattle.refusal.specs.declared.Refusal.TheVariants.{ShortPlanBuffer}
use Rattle.routine.specs.Reader.{read_check}
use Rattle.words.specs.Tables.{wrote}
use Rattle.words.specs.Words.{bytes16}
use Rattle.rounds.specs.declared.Passes.{Passes}

-- ---- the numbers, 16 bits each, in the order in which the passes are made

abbrev pub four_bytes : ℕ → ℕ → ℕ → ℕ → List ℕ
four_bytes letters reached reaching kept = bytes16 letters ++ (bytes16 reached ++ (bytes16 reaching ++ bytes16 kept))

-- of a routine without calls: letters, reached vertices, reaching sets, kept sets
pub record FourPasses (routine bytes : List ℕ) : Type 0 where
  pub letters : ℕ
  pub reached : ℕ
  pub reaching : ℕ
  pub kept : ℕ
  pub letters_stop : LettersStop routine letters
  pub reached_first : ReachedFirst routine reached
  pub reaching_stops : ReachingStops routine reaching
  pub kept_stops : KeptStops routine kept
  pub are : bytes ≡ four_bytes letters reached reaching kept

-- of a file with calls: first those of the file with calls as references, reached vertices and versions that arrive; then the four of the
-- expanded routine
pub record SixPasses (file bytes : List ℕ) : Type 0 where
  pub reached : ℕ
  pub arriving : ℕ
  pub rest : List ℕ
  pub reached_first : ReachedFirst (referring file) reached
  pub arriving_stops : BroughtStops (referring file) arriving
  pub four : FourPasses (expanded file) rest
  pub are : bytes ≡ bytes16 reached ++ (bytes16 arriving ++ rest)

pub record PassBytes (file bytes : List ℕ) : Type 0 where
  pub plain : has_calls file ≡ false → FourPasses file bytes
  pub calls : has_calls file ≡ true → SixPasses file bytes

-- ---- the call

-- how many bytes
abbrev pub rounds_length : List ℕ → ℕ
rounds_length file = cond (has_calls file) 12 8

-- checks run as those of a plan; last, 1 for a short buffer
unfoldable pub rounds_check : List ℕ → ℕ → Verdict
unfolding read_check calls_check has_calls
rounds_check file size =
    read_check file and_then calls_check file and_then holds (leb (rounds_length file) size) (ShortPlanBuffer (rounds_length file))

-- the reply to any file, with a buffer of `size` bytes
unfoldable pub rounds_of : List ℕ → ℕ → Reply
unfolding rounds_check has_calls
rounds_of file size = written (rounds_check file size) (rounds_length file)

-- its number and places
abbrev pub rounds_outcome : List ℕ → ℕ → Outcome
rounds_outcome file size = reply_outcome (rounds_of file size)

-- of any list of bytes
pub record Rounded (file before : List ℕ) (reply : Reply) (after : List ℕ) : Type 0 where
  pub answer : reply ≡ rounds_of file (length before)
  pub outcome : reply_outcome reply ≡ rounds_outcome file (length before)
  pub numbers : (n : ℕ) → reply ≡ Ok n → (bytes : List ℕ) × PassBytes file bytes × (after ≡ wrote before bytes)
  pub unwritten : (r : Refusal) → reply ≡ Err r → after ≡ before

-- ---- how the code keeps it: 20 and 21 of a routine without calls, and where both pass the numbers

pub record Counted (routine : List ℕ) (p : Passes) : Type 0 where
  pub answers : p.verdict ≡ programmer_check routine
  pub letters_stop : p.verdict ≡ Ok tt → LettersStop routine p.letters
  pub reached_first : p.verdict ≡ Ok tt → ReachedFirst routine p.reached
  pub reaching_stops : p.verdict ≡ Ok tt → ReachingStops routine p.reaching
  pub kept_stops : p.verdict ≡ Ok tt → KeptStops routine p.kept
