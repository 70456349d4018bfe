-- Document 02, request 5: the passes over the edges of a directive file, and after how many rounds each of them stops.
-- Assumes nothing.
use Rattle.std.specs.Prelude.{false, cond, List, ℕ, eqb}
use Rattle.flow.specs.Counted.{StopsAfter}
use Rattle.directives.specs.Layout.{arrays, vertices, entry, edge_bytes}

-- a pass over m columns and the vertices of a directive file, by what paths from the entry bring, stops after r rounds
abbrev pub Stops : List ℕ → ℕ → (ℕ → ℕ → ℕ) → (ℕ → ℕ → ℕ) → ℕ → Type 0
Stops file m gives passes r = StopsAfter (edge_bytes file) false m (vertices file) gives passes r

-- the pass for the vertices that a path from the entry reaches: the entry gives, and every vertex passes
abbrev pub ReachedStops : List ℕ → ℕ → Type 0
ReachedStops file r = Stops file (arrays file) (λ a v. cond (eqb v entry) 1 0) (λ a v. 1) r
