-- Document 02, request 3: the version to which a call remaps an array back.
-- Assumes nothing.
use Rattle.std.specs.Prelude.{◌≡◌, true, List, ℕ, ◌<◌}
use Rattle.std.proofs.Math.Option.{some}
use Rattle.calls.specs.Calls.{passes}
use Rattle.calls.specs.Expanded.{routine_of}
use Rattle.calls.specs.Parts.{first_vertex_of}
use Rattle.calls.specs.Referring.{return_version}
use Rattle.labels.specs.Events.{is_label, version}
use Rattle.labels.specs.Reaching.{last_version}
use Rattle.path.specs.Paths.{steps, vertex_at}
use Rattle.routine.specs.Layout.{arrays, vertices}
use Rattle.words.specs.Tables.{table}

-- one claim about a whole path: where it arrives at a call, the version to which the call remaps an array back is the one that the source
-- names before the call: that of the array's last label before it; `table (vertex_at path) i` are the vertices before the one at index i
pub record ReturnsNamed (file path : List ℕ) : Type 0 where
  pub named :
      (i a v : ℕ) → i < steps path → a < arrays file → v < vertices file → vertex_at path i ≡ first_vertex_of file v → passes file a v ≡ true
      → last_version (is_label (routine_of file) a) (version (routine_of file) a) (table (vertex_at path) i) ≡ some (return_version file a v)
