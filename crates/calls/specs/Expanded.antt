-- Document 02, request 3: the expanded routine, as bytes of document 01's layout. Labels, plan, path and run are of it.
-- Assumes nothing.
use Rattle.std.specs.Prelude.{cond, List, [], ◌∷◌, ◌++◌, ℕ, ◌+◌, ◌*◌, eqb, length, take, drop}
use Rattle.routine.specs.Actions.{called_version, action_byte}
use Rattle.routine.specs.Edges.{edge_of}
use Rattle.routine.specs.Layout.{arrays, vertices, edges, actions_at}
use Rattle.routine.specs.declared.edge.Edge.{Edge}
use Rattle.words.specs.Tables.{table, rows}
use Rattle.words.specs.Words.{bytes16}
use Rattle.calls.specs.Calls.{intent_byte, passes, is_call_row, has_calls}
use Rattle.calls.specs.Parts.{Part, plain, passing, calling, returning, beyond, expanded_vertices, part_at, first_vertex_of, last_of}
use Rattle.calls.specs.Referring.{return_version}

-- ---- rows: remap to k, then a read, define or modify, then a remap to the version that the source names before the call

-- the action byte of a vertex for array a; an array that a call does not pass has 00 at all three
abbrev pub expanded_byte : List ℕ → ℕ → Part → ℕ
expanded_byte file a (plain v) = action_byte file a v
expanded_byte file a (passing v) = cond (passes file a v) (0x40 + called_version (action_byte file a v)) 0x00
expanded_byte file a (calling v) = cond (passes file a v) (intent_byte (action_byte file a v)) 0x00
expanded_byte file a (returning v) = cond (passes file a v) (0x40 + return_version file a v) 0x00
expanded_byte file a beyond = 0x00

-- the row of vertex x
abbrev pub expanded_row : List ℕ → ℕ → List ℕ
expanded_row file x = table (λ a. expanded_byte file a (part_at file x)) (arrays file)

-- ---- edges: two inside each call, and each edge f-t of the file from the last vertex of f to the first of t; rising by from, then to

-- an edge
abbrev pub edge : ℕ → ℕ → Edge
edge v w = record { from = v; to = w }

-- those inside v
abbrev pub inner_edges : List ℕ → ℕ → List Edge
inner_edges file v =
    cond (is_call_row file v) (edge (first_vertex_of file v) (first_vertex_of file v + 1) ∷ edge (first_vertex_of file v + 1) (first_vertex_of file v + 2) ∷ []) []

-- edge i of the file, if it leaves v
abbrev pub outer_edge : List ℕ → ℕ → ℕ → List Edge
outer_edge file v i = cond (eqb (edge_of file i).from v) (edge (last_of file v) (first_vertex_of file (edge_of file i).to) ∷ []) []

-- those that leave the vertices of v
abbrev pub edges_from : List ℕ → ℕ → List Edge
edges_from file v = inner_edges file v ++ rows (outer_edge file v) (edges file)

-- all of them
unfoldable pub expanded_edges : List ℕ → List Edge
unfolding first_vertex_of last_of rows
expanded_edges file = rows (edges_from file) (vertices file)

-- four bytes each
abbrev pub edges_bytes : List Edge → List ℕ
edges_bytes [] = []
edges_bytes (e ∷ es) = bytes16 e.from ++ (bytes16 e.to ++ edges_bytes es)

-- ---- the whole

-- contents with its own counts, the file's array records, its own rows and edges
unfoldable pub expanded : List ℕ → List ℕ
unfolding expanded_vertices part_at return_version expanded_edges rows
expanded file =
    take 12 file
    ++ (bytes16 (expanded_vertices file)
    ++ (bytes16 (actions_at file + expanded_vertices file * arrays file)
    ++ (bytes16 (length (expanded_edges file))
    ++ (take (4 * arrays file) (drop 18 file)
    ++ (rows (expanded_row file) (expanded_vertices file) ++ edges_bytes (expanded_edges file))))))

-- what is planned and run: the expanded routine, or the file itself if it has no call
unfoldable pub routine_of : List ℕ → List ℕ
unfolding has_calls expanded
routine_of file = cond (has_calls file) (expanded file) file
