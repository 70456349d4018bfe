-- Document 02, request 5: the number of rounds of a pass. Every earlier round altered a set of an array, the last none, and there are at
-- most as many rounds as vertices and one more.
-- Assumes nothing.
use Rattle.std.specs.Prelude.{◌≡◌, Bool, List, ℕ, suc, ◌+◌, ◌-◌, ◌≤◌, ◌<◌, replicate}
use Rattle.words.specs.Tables.{table}
use Rattle.flow.specs.Order.{Order}
use Rattle.flow.specs.Paths.{edge_count}
use Rattle.flow.specs.Solver.{relaxed, rounds}

-- the sets of one array, one for each of n vertices, after r rounds from empty sets; each round takes every edge once, in this order
abbrev pub sets_after : List ℕ → List ℕ → Bool → (ℕ → ℕ) → (ℕ → ℕ) → ℕ → ℕ → List ℕ
sets_after es order along gives passes n r = rounds (relaxed es along (table gives n) (table passes n)) order along (replicate n 0) r

-- a pass over m arrays and n vertices, the edges taken in some order, stops after r rounds
pub record StopsAfter (es : List ℕ) (along : Bool) (m n : ℕ) (gives passes : ℕ → ℕ → ℕ) (r : ℕ) : Type 0 where
  pub order : List ℕ
  pub ordered : Order (edge_count es) order
  pub some : 0 < r
  pub most : r ≤ n + 1
  -- every earlier round altered a set of an array
  pub altered : (j : ℕ) → suc j < r
      → (a : ℕ) × (a < m) × (sets_after es order along (gives a) (passes a) n (suc j) ≡ sets_after es order along (gives a) (passes a) n j → ⊥)
  -- the last none
  pub still : (a : ℕ) → a < m → sets_after es order along (gives a) (passes a) n r ≡ sets_after es order along (gives a) (passes a) n (r - 1)
