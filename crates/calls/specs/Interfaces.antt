-- Document 02, request 3: what 10 to 19 and 22 leave of a file that may have calls.
-- Assumes nothing.
use Rattle.std.specs.Prelude.{◌≡◌, true, false, List, ℕ, ◌≤◌, ◌<◌}
use Rattle.routine.specs.Actions.{called_version, action_byte}
use Rattle.routine.specs.Arrays.{array_of}
use Rattle.routine.specs.Layout.{arrays, vertices, edges}
use Rattle.routine.specs.Reader.{WellFormed}
use Rattle.calls.specs.Calls.{passes, is_call_row}
use Rattle.calls.specs.Parts.{expanded_vertices}

-- what 17 and 19 leave of call rows
pub record Interfaces (file : List ℕ) : Type 0 where
  -- a call row holds calls and 00 only
  pub calls_only :
      (a v : ℕ) → a < arrays file → v < vertices file → is_call_row file v ≡ true → passes file a v ≡ false → action_byte file a v ≡ 0x00
  -- the version in which an array is passed is below its number
  pub called_below :
      (a v : ℕ) → a < arrays file → v < vertices file → passes file a v ≡ true
      → called_version (action_byte file a v) < (array_of file a).versions

-- a file that can be expanded
pub record Expandable (file : List ℕ) : Type 0 where
  pub well : WellFormed file
  pub interfaces : Interfaces file
  -- 12: the file's own edges
  pub few_edges : edges file ≤ 1024
  -- 22: at most 256 vertices after expansion
  pub few_vertices : expanded_vertices file ≤ 256
