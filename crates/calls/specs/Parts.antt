-- Document 02, request 3: the vertices of the expanded routine, in file order. Each call row becomes three, shared by the arrays that it
-- passes.
-- Assumes nothing.
use Rattle.std.specs.Prelude.{cond, List, [], ◌∷◌, ℕ, ◌+◌, length, get_or}
use Rattle.routine.specs.Layout.{vertices}
use Rattle.words.specs.Tables.{rows}
use Rattle.calls.specs.Calls.{is_call_row}

-- what vertex v of the file becomes: itself, if it is no call; else a remapping to the versions in which the arrays are passed, then the
-- references of the call, then a remapping back. Beyond the last vertex there is none
pub data Part : Type 0 where
  plain : ℕ → Part
  passing : ℕ → Part
  calling : ℕ → Part
  returning : ℕ → Part
  beyond : Part

-- one vertex, or three
abbrev pub parts_of : List ℕ → ℕ → List Part
parts_of file v = cond (is_call_row file v) (passing v ∷ calling v ∷ returning v ∷ []) (plain v ∷ [])

-- those of the first n vertices of the file
unfoldable pub parts : List ℕ → ℕ → List Part
unfolding rows is_call_row
parts file n = rows (parts_of file) n

-- how many vertices the expanded routine has
unfoldable pub expanded_vertices : List ℕ → ℕ
unfolding parts
expanded_vertices file = length (parts file (vertices file))

-- vertex x of the expanded routine
unfoldable pub part_at : List ℕ → ℕ → Part
unfolding parts
part_at file x = get_or (parts file (vertices file)) x beyond

-- the first vertex of those that v becomes
unfoldable pub first_vertex_of : List ℕ → ℕ → ℕ
unfolding parts
first_vertex_of file v = length (parts file v)

-- the last of them
unfoldable pub last_of : List ℕ → ℕ → ℕ
unfolding first_vertex_of is_call_row
last_of file v = first_vertex_of file v + cond (is_call_row file v) 2 0
