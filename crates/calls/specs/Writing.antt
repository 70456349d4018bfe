-- How the code keeps it: tables by which the expanded routine is written, how far its edges are, and its first bytes.
-- Assumes nothing.
use Rattle.std.specs.Prelude.{◌≡◌, Bool, true, false, List, ◌++◌, ℕ, ◌+◌, ◌*◌, ◌≤◌, ◌<◌, length, get_or, take, drop}
use Rattle.routine.specs.Edges.{edge_of}
use Rattle.routine.specs.Layout.{arrays, vertices, edges}
use Rattle.routine.specs.declared.edge.Edge.{Edge}
use Rattle.routine.specs.declared.header.Header.{Header}
use Rattle.words.specs.Tables.{rows, wrote}
use Rattle.words.specs.Words.{bytes16}
use Rattle.calls.specs.Expanded.{inner_edges, outer_edge, edges_from, edges_bytes}
use Rattle.calls.specs.Parts.{first_vertex_of}
use Rattle.calls.specs.Referring.{arriving}
use Rattle.calls.specs.declared.edges.Place.{Place}

-- the first of the vertices that each vertex of the file becomes, and behind them how many there are
pub record Firsts (file firsts : List ℕ) : Type 0 where
  pub room : vertices file < length firsts
  pub are : (v : ℕ) → v ≤ vertices file → get_or firsts v 0 ≡ first_vertex_of file v

-- the versions that arrive, the cell of vertex v and array a at 8 v + a
pub record Arrivals (file arrivals : List ℕ) : Type 0 where
  pub room : 8 * vertices file ≤ length arrivals
  pub are : (a v : ℕ) → a < arrays file → v < vertices file → get_or arrivals (8 * v + a) 0 ≡ arriving file a v

-- ---- edges

-- what the answer whether edge i leaves v tells
abbrev pub Leaves : List ℕ → ℕ → ℕ → Bool → Type 0
Leaves file i v true = (i < edges file) × ((edge_of file i).from ≡ v)
Leaves file i v false = i < edges file → (edge_of file i).from ≡ v → ⊥

-- the edges before those of vertex v, those inside v, and of those that leave v the ones before edge i of the file
abbrev pub edges_up_to : List ℕ → ℕ → ℕ → List Edge
edges_up_to file v i = rows (edges_from file) v ++ (inner_edges file v ++ rows (outer_edge file v) i)

-- a place among them: edges of the file before it leave its vertex or an earlier one, the others its vertex or a later one
pub record Placed (file : List ℕ) (p : Place) : Type 0 where
  pub in_vertices : p.vertex < vertices file
  pub in_edges : p.edge ≤ edges file
  pub earlier : (k : ℕ) → k < p.edge → (edge_of file k).from ≤ p.vertex
  pub later : (k : ℕ) → p.edge ≤ k → k < edges file → p.vertex ≤ (edge_of file k).from
  pub counted : p.count ≡ length (edges_up_to file p.vertex p.edge)

-- from place p on to place q: the edges between are written
pub record Onward (file : List ℕ) (p q : Place) (old new : List ℕ) : Type 0 where
  pub placed : Placed file q
  pub between : List Edge
  pub on : edges_up_to file q.vertex q.edge ≡ edges_up_to file p.vertex p.edge ++ between
  pub less : p.vertex + p.edge < q.vertex + q.edge
  pub is : new ≡ wrote old (edges_bytes between)

-- ---- contents and array records

-- how many vertices, where the edges stand, how many edges
abbrev pub count_bytes : Header → List ℕ
count_bytes h = bytes16 h.vertices ++ (bytes16 (18 + 4 * h.arrays + h.vertices * h.arrays) ++ bytes16 h.edges)

-- those of an expanded routine with header h
abbrev pub head_bytes : List ℕ → Header → List ℕ
head_bytes file h = (take 12 file ++ count_bytes h) ++ take (4 * h.arrays) (drop 18 file)
