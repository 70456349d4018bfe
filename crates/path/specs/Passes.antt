-- Document 02, request 8: how often a path passes each edge.
-- Assumes nothing.
use Rattle.std.specs.Prelude.{◌≡◌, List, ℕ, suc, ◌-◌, ◌<◌}
use Rattle.path.specs.Paths.{steps, vertex_at, joins}
use Rattle.routine.specs.Layout.{edges}
use Rattle.words.specs.Sums.{total, count_of}

-- how often the path passes edge n on its way to index k
unfoldable pub passes_up_to : List ℕ → List ℕ → ℕ → ℕ → ℕ
unfolding total
passes_up_to file path k n = count_of (λ i. joins file (vertex_at path i) (vertex_at path (suc i)) n) k

-- how often the path passes edge n
abbrev pub passes_of : List ℕ → List ℕ → ℕ → ℕ
passes_of file path n = passes_up_to file path (steps path - 1) n

-- the counts of an accepted path: their total is its length less one, and each of them is a 16-bit number
pub record Counts (file path : List ℕ) : Type 0 where
  pub all : total (passes_of file path) (edges file) ≡ steps path - 1
  pub each : (n : ℕ) → passes_of file path n < 65536
