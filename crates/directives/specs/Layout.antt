-- docs/DIRECTIVES.md: the table of contents of a directive file, and where each body stands.
-- Assumes nothing.
use Rattle.std.specs.Prelude.{◌≡◌, List, ℕ, ◌+◌, ◌-◌, ◌*◌, ◌≤◌, ◌<◌, drop}
use Rattle.words.specs.Words.{word}
use Rattle.directives.specs.declared.header.Header.{Header}

-- ---- contents at byte 6: offset and count, 16 bits each, of templates, arrays, vertices, edges

-- how many templates
abbrev pub templates : List ℕ → ℕ
templates file = word file 8

-- how many arrays
abbrev pub arrays : List ℕ → ℕ
arrays file = word file 12

-- how many vertices
abbrev pub vertices : List ℕ → ℕ
vertices file = word file 16

-- how many edges
abbrev pub edges : List ℕ → ℕ
edges file = word file 20

-- the four counts
abbrev pub header_of : List ℕ → Header
header_of file = record { templates = templates file; arrays = arrays file; vertices = vertices file; edges = edges file }

-- vertex 0 is the entry
abbrev pub entry : ℕ
entry = 0

-- the last is the exit
abbrev pub exit : List ℕ → ℕ
exit file = vertices file - 1

-- ---- bodies from byte 22 in that order without gaps

-- template t: a spread of eight bytes
abbrev pub template_at : ℕ → ℕ
template_at t = 22 + 8 * t

-- the first array
abbrev pub arrays_at : List ℕ → ℕ
arrays_at file = 22 + 8 * templates file

-- array a: kind, template, exchanged, zero
abbrev pub array_at : List ℕ → ℕ → ℕ
array_at file a = arrays_at file + 4 * a

-- the first vertex
abbrev pub vertices_at : List ℕ → ℕ
vertices_at file = arrays_at file + 4 * arrays file

-- vertex v: a directive of twelve bytes, then a byte for each array
abbrev pub vertex_at : List ℕ → ℕ → ℕ
vertex_at file v = vertices_at file + v * (12 + arrays file)

-- its byte for array a
abbrev pub reference_at : List ℕ → ℕ → ℕ → ℕ
reference_at file v a = vertex_at file v + 12 + a

-- the first edge
abbrev pub edges_at : List ℕ → ℕ
edges_at file = vertices_at file + vertices file * (12 + arrays file)

-- edge i: from, to
abbrev pub edge_at : List ℕ → ℕ → ℕ
edge_at file i = edges_at file + 4 * i

-- the end of the file
abbrev pub end_at : List ℕ → ℕ
end_at file = edges_at file + 4 * edges file

-- the bytes of the edges
abbrev pub edge_bytes : List ℕ → List ℕ
edge_bytes file = drop (edges_at file) file

-- the longest file: 8 templates, 8 arrays, 256 vertices, 1,024 edges
abbrev pub longest : ℕ
longest = 9334

-- ---- how the code keeps it

-- counts of 16 bits
pub record Counts (h : Header) : Type 0 where
  pub templates_fit : h.templates < 65536
  pub arrays_fit : h.arrays < 65536
  pub vertices_fit : h.vertices < 65536
  pub edges_fit : h.edges < 65536

-- counts within their limits
pub record Limits (file : List ℕ) : Type 0 where
  pub some_template : 1 ≤ templates file
  pub few_templates : templates file ≤ 8
  pub some_array : 1 ≤ arrays file
  pub few_arrays : arrays file ≤ 8
  pub two_vertices : 2 ≤ vertices file
  pub few_vertices : vertices file ≤ 256
  pub few_edges : edges file ≤ 1024

-- a file within the limits, with its own header
pub record Heads (h : Header) (file : List ℕ) : Type 0 where
  pub limits : Limits file
  pub templates_are : h.templates ≡ templates file
  pub arrays_are : h.arrays ≡ arrays file
  pub vertices_are : h.vertices ≡ vertices file
  pub edges_are : h.edges ≡ edges file
