-- Document 02, request 8: the place of an edge in the list.
-- Assumes nothing.
use Rattle.std.specs.Prelude.{◌≡◌, true, false, List, ℕ, ◌≤◌, ◌<◌, length, get_or, Option, None, Some}
use Rattle.path.specs.Paths.{joins, is_edge}
use Rattle.routine.specs.Edges.{edge_of}
use Rattle.routine.specs.Layout.{vertices, edges}

-- what the test whether an edge joins v to w yields: its place, or that there is none
abbrev pub Finds : List ℕ → ℕ → ℕ → Option ℕ → Type 0
Finds file v w (Some n) = (n < edges file) × (joins file v w n ≡ true)
Finds file v w None = is_edge file v w ≡ false

-- ---- how the code keeps it: where the edges from each vertex start

-- the edges before `at` leave vertices below v, the others v or later ones
pub record RowStart (file : List ℕ) (v at : ℕ) : Type 0 where
  pub within : at ≤ edges file
  pub earlier : (n : ℕ) → n < at → (edge_of file n).from < v
  pub later : (n : ℕ) → at ≤ n → n < edges file → v ≤ (edge_of file n).from

-- that of each vertex, and behind them where the edges end
pub record Starts (file starts : List ℕ) : Type 0 where
  pub room : vertices file < length starts
  pub are : (v : ℕ) → v ≤ vertices file → RowStart file v (get_or starts v 0)
