-- How the code keeps it: edges that fall.
-- Assumes nothing.
use Rattle.std.specs.Prelude.{Bool, List, ℕ, ltb}
use Rattle.flow.specs.Paths.{edge_from, edge_to}

-- edge i leads to a vertex below the one that it leaves
abbrev pub is_falling : List ℕ → ℕ → Bool
is_falling es i = ltb (edge_to es i) (edge_from es i)
