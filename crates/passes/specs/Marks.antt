-- How the code keeps it: marks of the vertices that are entered from earlier ones, by which every vertex is seen to be reached.
-- Assumes nothing.
use Rattle.std.specs.Prelude.{◌≡◌, List, ℕ, ◌<◌, T, get_or}
use Rattle.labels.specs.Reaching.{is_reached}
use Rattle.routine.specs.Layout.{vertices}

-- v is reached if all earlier vertices are
abbrev pub Follows : List ℕ → ℕ → Type 0
Follows file v = ((u : ℕ) → u < v → T (is_reached file u)) → T (is_reached file v)

-- the marked vertices are such
pub record Marked (file marks : List ℕ) : Type 0 where
  pub follows : (v : ℕ) → (get_or marks v 0 ≡ 0 → ⊥) → Follows file v

-- a path from the entry reaches every vertex
pub record AllReached (file : List ℕ) : Type 0 where
  pub reached : (v : ℕ) → v < vertices file → T (is_reached file v)
