-- Paths over the edges of a routine.
-- Assumes nothing.
use Rattle.std.specs.Prelude.{◌≡◌, Bool, List, [], ◌∷◌, ℕ, ◌+◌, ◌*◌, ◌/◌, ◌<◌, T, length}
use Rattle.words.specs.Words.{word}

-- ---- edges: four bytes each, from and to (document 01, "Routine file"); `es` is the list of their bytes

-- how many edges
abbrev pub edge_count : List ℕ → ℕ
edge_count es = length es / 4

-- the vertex that edge i leaves
abbrev pub edge_from : List ℕ → ℕ → ℕ
edge_from es i = word es (4 * i)

-- the vertex that it enters
abbrev pub edge_to : List ℕ → ℕ → ℕ
edge_to es i = word es (4 * i + 2)

-- an edge from v to w
pub record Edge (es : List ℕ) (v w : ℕ) : Type 0 where
  pub place : ℕ
  pub listed : place < edge_count es
  pub leaves : edge_from es place ≡ v
  pub enters : edge_to es place ≡ w

-- ---- paths of one edge or more whose inner vertices pass a test, by induction

pub data Path (es : List ℕ) (through : ℕ → Bool) : ℕ → ℕ → Type 0 where
  last : {v w : ℕ} → Edge es v w → Path es through v w
  next : {v u w : ℕ} → Edge es v u → T (through u) → Path es through u w → Path es through v w

-- ---- the same as lists of vertices

-- each vertex of v, vs, w is joined to the one after it by an edge
abbrev pub Joined : List ℕ → ℕ → List ℕ → ℕ → Type 0
Joined es v [] w = Edge es v w
Joined es v (u ∷ us) w = Edge es v u × Joined es u us w

-- each vertex of the list passes the test
abbrev pub AllPass : (ℕ → Bool) → List ℕ → Type 0
AllPass through [] = Unit {0}
AllPass through (u ∷ us) = T (through u) × AllPass through us

-- a path with its inner vertices written out
pub record ListPath (es : List ℕ) (through : ℕ → Bool) (v w : ℕ) : Type 0 where
  pub inner : List ℕ
  pub joined : Joined es v inner w
  pub pass : AllPass through inner

-- ---- what a path arrives at

-- a path of this kind from v arrives at a vertex of which something holds
pub record Finds (Way : ℕ → ℕ → Type 0) (Met : ℕ → Type 0) (v : ℕ) : Type 0 where
  pub place : ℕ
  pub way : Way v place
  pub met : Met place
