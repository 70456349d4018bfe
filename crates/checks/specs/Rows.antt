-- How the code keeps it: what the checks 20 and 21 hold, row by row, and what they answer.
-- Assumes nothing.
use Rattle.std.specs.Prelude.{◌≡◌, cond, List, ℕ, ◌+◌, ◌*◌, ◌<◌, T, length, get_or, Ok}
use Rattle.labels.specs.Ambiguity.{brought_of}
use Rattle.labels.specs.Checks.{programmer_check}
use Rattle.labels.specs.Events.{event}
use Rattle.labels.specs.Reaching.{reaching_of}
use Rattle.routine.specs.Actions.{is_reference}
use Rattle.routine.specs.Arrays.{kind, is_in}
use Rattle.passes.specs.Counted.{LettersStop, ReachingStops, BroughtStops, ReachedFirst}
use Rattle.passes.specs.Tables.{Cells, Letters}
use Rattle.routine.specs.Layout.{arrays, vertices}
use Rattle.checks.specs.declared.Judgement.{Judgement}
use Rattle.checks.specs.declared.Prepared.{Prepared}

-- a mask for each array: of an in argument bit 3, which its writes give
pub record InMasks (file masks : List ℕ) : Type 0 where
  pub size : length masks ≡ 8
  pub are : (a : ℕ) → a < arrays file → get_or masks a 0 ≡ cond (is_in (kind file a)) 0b1000 0

-- a set for each array and vertex: at a reference the reaching set, elsewhere any
pub record AtReferences (file s : List ℕ) : Type 0 where
  pub size : length s ≡ 8 * vertices file
  pub are : (a v : ℕ) → a < arrays file → v < vertices file → T (is_reference (event file a v)) → get_or s (8 * v + a) 0 ≡ reaching_of file a v

-- the answer; where it passes, the tables of letters and of reaching sets, and the numbers of rounds (document 02, request 5)
pub record Checked (file : List ℕ) (answer : Prepared) (letters reaching : List ℕ) : Type 0 where
  pub answers : answer.verdict ≡ programmer_check file
  pub letters_are : answer.verdict ≡ Ok tt → Letters file letters
  pub reaching_are : answer.verdict ≡ Ok tt → Cells file (reaching_of file) reaching
  pub letters_stop : answer.verdict ≡ Ok tt → LettersStop file answer.letters
  pub reached_first : answer.verdict ≡ Ok tt → ReachedFirst file answer.reached
  pub reaching_stops : answer.verdict ≡ Ok tt → ReachingStops file answer.reaching

-- the answer; where it passes, the table of the versions that paths bring, and the numbers of rounds
pub record Judged (file : List ℕ) (answer : Judgement) (brought : List ℕ) : Type 0 where
  pub answers : answer.verdict ≡ programmer_check file
  pub brought_are : answer.verdict ≡ Ok tt → Cells file (brought_of file) brought
  pub reached_first : answer.verdict ≡ Ok tt → ReachedFirst file answer.reached
  pub brought_stops : answer.verdict ≡ Ok tt → BroughtStops file answer.brought
