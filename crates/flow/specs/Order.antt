-- How the code keeps it: the order in which a round takes the edges.
-- Assumes nothing.
use Rattle.std.specs.Prelude.{◌≡◌, List, ℕ, ◌+◌, ◌*◌, ◌<◌, length, get_or}
use Rattle.words.specs.Tables.{table}

-- an order of c edges: each of them has a turn
pub record Order (c : ℕ) (order : List ℕ) : Type 0 where
  pub all : length order ≡ c
  pub within : (j : ℕ) → j < c → get_or order j 0 < c
  pub turn : (i : ℕ) → i < c → (j : ℕ) × (j < c) × (get_or order j 0 ≡ i)

-- edges at most, the calls of a routine expanded: 1,024 in its file, and two for each call, which becomes three vertices (document 02,
-- request 3); 84 calls at most, since calls + 2 ≤ vertices (neither the entry nor the exit is one) and vertices + 2 * calls ≤ 256
abbrev pub max_edges : ℕ
max_edges = 1024 + 2 * 84

-- the edges by their numbers
abbrev pub natural : ℕ → List ℕ
natural c = table (λ i. i) c
