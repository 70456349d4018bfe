-- How the code keeps it: tables of a directive file, the cell of vertex v and array a at 8 v + a.
-- Assumes nothing.
use Rattle.std.specs.Prelude.{◌≡◌, ◌||◌, List, ℕ, ◌+◌, ◌*◌, ◌<◌, eqb, length, get_or}
use Rattle.flow.specs.Cells.{Cells}
use Rattle.flow.specs.Order.{Order}
use Rattle.flow.specs.Paths.{edge_count}
use Rattle.labels.specs.Reaching.{reached_over}
use Rattle.directives.specs.Layout.{arrays, vertices, entry, edge_bytes}
use Rattle.directives.specs.Directives.{directive}
use Rattle.directives.specs.declared.array.Alignment.{Alignment}
use Rattle.directives.specs.declared.vertex.Directive.TheVariants.{Realign}
use Rattle.mappings.specs.Computed.{align_sets, redistributes, last_column, versions_of, given_set}

-- an order of the file's edges
abbrev pub EdgeOrder : List ℕ → List ℕ → Type 0
EdgeOrder file order = Order (edge_count (edge_bytes file)) order

-- a number for each array and vertex
abbrev pub ArrayCells : List ℕ → (ℕ → ℕ → ℕ) → List ℕ → Type 0
ArrayCells file f s = Cells (arrays file) (vertices file) f s

-- which vertices a path of one edge or more from the entry reaches, in each column
abbrev pub Reached : List ℕ → List ℕ → Type 0
Reached file s = Cells 8 (vertices file) (λ a v. get_or (reached_over (edge_bytes file) (vertices file)) v 0) s

-- the alignments that paths bring
abbrev pub Alignments : List ℕ → List ℕ → Type 0
Alignments file s = ArrayCells file (λ a v. get_or (align_sets file a) v 0) s

-- the spreads of template t that paths bring, by the vertices that gave them: those of column c
unfoldable pub spread_column : List ℕ → ℕ → ℕ → List ℕ
unfolding last_column directive
spread_column file t c =
    last_column (edge_bytes file) (vertices file) (λ u. eqb u entry || redistributes t (directive file u)) (λ u. u) c

-- all eight columns, at each realign those of its template
pub record Spreads (file s : List ℕ) : Type 0 where
  pub size : length s ≡ 8 * vertices file
  pub cells :
      (v b c : ℕ) (x : Alignment) → v < vertices file → c < 8 → directive file v ≡ Realign b x
      → get_or s (8 * v + c) 0 ≡ get_or (spread_column file x.template c) v 0

-- the versions that directives give
abbrev pub Given : List ℕ → List ℕ → Type 0
Given file s = ArrayCells file (given_set file) s

-- how many versions each array has
pub record VersionCounts (file counts : List ℕ) : Type 0 where
  pub size : length counts ≡ 8
  pub are : (a : ℕ) → a < arrays file → get_or counts a 0 ≡ length (versions_of file a)
