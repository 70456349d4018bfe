-- How the code keeps it: the places of the edges in an order.
-- Assumes nothing.
use Rattle.std.specs.Prelude.{◌≡◌, List, ℕ, ◌≤◌, ◌<◌, length, get_or}
use Rattle.flow.specs.Order.{max_edges}

-- `place` says where each edge stands in the order
pub record Placed (c : ℕ) (order place : List ℕ) : Type 0 where
  pub all : length order ≡ c
  pub most : c ≤ max_edges
  pub room : length place ≡ max_edges
  pub within : (j : ℕ) → j < c → get_or order j 0 < c
  pub known : (i : ℕ) → i < c → get_or place i 0 < c
  pub stands : (i : ℕ) → i < c → get_or order (get_or place i 0) 0 ≡ i
