-- Document 02, request 3: what the expanded routine is of its file.
-- Assumes nothing.
use Rattle.std.specs.Prelude.{◌≡◌, true, false, cond, List, ◌↔◌, ℕ, ◌+◌, ◌<◌}
use Rattle.flow.specs.Paths.{Edge}
use Rattle.labels.specs.Events.{edge_bytes, event}
use Rattle.routine.specs.Actions.{action_of, called_version, action_byte}
use Rattle.routine.specs.Arrays.{array_of}
use Rattle.routine.specs.Layout.{arrays, vertices}
use Rattle.routine.specs.Reader.{WellFormed}
use Rattle.routine.specs.declared.action.Action.TheVariants.{Nothing, Remap}
use Rattle.calls.specs.Calls.{intent_byte, passes, is_call_row}
use Rattle.calls.specs.Expanded.{expanded}
use Rattle.calls.specs.Parts.{expanded_vertices, first_vertex_of, last_of}
use Rattle.calls.specs.Referring.{return_version}

-- the three vertices of the call at v, for array a: what they do with it if the call passes it, else nothing
pub record ThreeVertices (file : List ℕ) (a v : ℕ) : Type 0 where
  -- remap to k
  pub first : event (expanded file) a (first_vertex_of file v) ≡ cond (passes file a v) (Remap (called_version (action_byte file a v))) Nothing
  -- then a read, define or modify
  pub second : event (expanded file) a (first_vertex_of file v + 1) ≡ cond (passes file a v) (action_of (intent_byte (action_byte file a v))) Nothing
  -- then a remap to the version that the source names before the call
  pub third : event (expanded file) a (first_vertex_of file v + 2) ≡ cond (passes file a v) (Remap (return_version file a v)) Nothing

-- an edge of the expanded routine: one of the two inside a call, or one of the file
pub data Joins (file : List ℕ) : ℕ → ℕ → Type 0 where
  enters : {v : ℕ} → v < vertices file → is_call_row file v ≡ true → Joins file (first_vertex_of file v) (first_vertex_of file v + 1)
  leaves : {v : ℕ} → v < vertices file → is_call_row file v ≡ true → Joins file (first_vertex_of file v + 1) (first_vertex_of file v + 2)
  between : {v u : ℕ} → Edge (edge_bytes file) v u → Joins file (last_of file v) (first_vertex_of file u)

-- one claim about a whole file
pub record Expands (file : List ℕ) : Type 0 where
  -- the expanded routine is a routine as document 01 has it
  pub formed : WellFormed (expanded file)
  -- its arrays are the file's
  pub arrays_same : arrays (expanded file) ≡ arrays file
  pub array_same : (a : ℕ) → a < arrays file → array_of (expanded file) a ≡ array_of file a
  -- its vertices are those that the file's become
  pub vertices_are : vertices (expanded file) ≡ expanded_vertices file
  -- a call is three vertices
  pub calls : (a v : ℕ) → a < arrays file → v < vertices file → is_call_row file v ≡ true → ThreeVertices file a v
  -- any other vertex does what it did
  pub others :
      (a v : ℕ) → a < arrays file → v < vertices file → is_call_row file v ≡ false → event (expanded file) a (first_vertex_of file v) ≡ event file a v
  -- the edges are those inside calls and those of the file, and no others
  pub joins : (x y : ℕ) → Edge (edge_bytes (expanded file)) x y ↔ Joins file x y
