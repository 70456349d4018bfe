-- Document 02, request 3: 22, checked after 16 and before 20; then 20 and 21, which name the file's vertex.
-- Assumes nothing.
use Rattle.std.specs.Prelude.{◌≡◌, true, List, ℕ, leb, Ok}
use Rattle.labels.specs.Checks.{programmer_check}
use Rattle.refusal.specs.Checks.{◌and_then◌, holds, Verdict}
use Rattle.refusal.specs.declared.Refusal.TheVariants.{TooManyVertices}
use Rattle.routine.specs.Reader.{read_check}
use Rattle.calls.specs.Calls.{has_calls}
use Rattle.calls.specs.Parts.{expanded_vertices}
use Rattle.calls.specs.Referring.{referring}

-- 22: more than 256 vertices after expansion
unfoldable pub check22 : List ℕ → Verdict
unfolding expanded_vertices
check22 file = holds (leb (expanded_vertices file) 256) (TooManyVertices (expanded_vertices file))

-- 22, then 20 and 21 of the file with calls as references
unfoldable pub calls_check : List ℕ → Verdict
unfolding check22 referring programmer_check
calls_check file = check22 file and_then programmer_check (referring file)

-- how the code keeps it: a file with calls that was read
pub record CallsRead (file : List ℕ) : Type 0 where
  pub passed : read_check file ≡ Ok tt
  pub some : has_calls file ≡ true
