-- How the code keeps it: tables of eight columns, the cell of vertex v and column a at 8 v + a.
-- Assumes nothing.
use Rattle.std.specs.Prelude.{◌≡◌, Bool, List, ℕ, ◌+◌, ◌*◌, ◌≤◌, ◌<◌, length, get_or}
use Rattle.flow.specs.Solver.{column, solution}

-- a number for each of m columns and n vertices
pub record Cells (m n : ℕ) (f : ℕ → ℕ → ℕ) (s : List ℕ) : Type 0 where
  pub size : length s ≡ 8 * n
  pub cells : (a v : ℕ) → a < m → v < n → get_or s (8 * v + a) 0 ≡ f a v

-- nothing in the columns from m on
pub record NoneBeyond (m n : ℕ) (s : List ℕ) : Type 0 where
  pub empty : (a v : ℕ) → m ≤ a → a < 8 → v < n → get_or s (8 * v + a) 0 ≡ 0

-- a pass over n vertices: each column is solved by itself
pub record Pass (es : List ℕ) (n : ℕ) (along : Bool) (gives passes sets : List ℕ) : Type 0 where
  pub size : length sets ≡ 8 * n
  pub solved : (a : ℕ) → a < 8 → column sets n a ≡ solution es along (column gives n a) (column passes n a) n
