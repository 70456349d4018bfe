-- Document 02, request 5: the passes over the edges of a routine, and after how many rounds each of them stops.
-- Assumes nothing.
use Rattle.std.specs.Prelude.{◌≡◌, Bool, true, false, cond, List, ◌⊎◌, ℕ, eqb}
use Rattle.flow.specs.Counted.{StopsAfter}
use Rattle.labels.specs.Ambiguity.{brought_gives, brought_passes}
use Rattle.labels.specs.Events.{edge_bytes, event}
use Rattle.labels.specs.Kept.{leaving_set, passes_kept}
use Rattle.labels.specs.Reaching.{reach_gives, reach_passes}
use Rattle.labels.specs.Uses.{use_gives, use_passes}
use Rattle.routine.specs.Layout.{arrays, vertices, entry}
use Rattle.sets.specs.Sets.{every_version}
use Rattle.passes.specs.Marks.{AllReached}

-- a pass over the arrays and vertices of a routine stops after r rounds
abbrev pub Stops : List ℕ → Bool → (ℕ → ℕ → ℕ) → (ℕ → ℕ → ℕ) → ℕ → Type 0
Stops file along gives passes r = StopsAfter (edge_bytes file) along (arrays file) (vertices file) gives passes r

-- the pass for the letters
abbrev pub LettersStop : List ℕ → ℕ → Type 0
LettersStop file r = Stops file true (λ a v. use_gives (event file a v)) (λ a v. use_passes (event file a v)) r

-- the pass for the vertices that a path from the entry reaches: the entry gives, and every vertex passes
abbrev pub ReachedStops : List ℕ → ℕ → Type 0
ReachedStops file r = Stops file false (λ a v. cond (eqb v entry) 1 0) (λ a v. 1) r

-- the pass for the reaching sets
abbrev pub ReachingStops : List ℕ → ℕ → Type 0
ReachingStops file r = Stops file false (reach_gives file) (reach_passes file) r

-- the pass for the kept sets
abbrev pub KeptStops : List ℕ → ℕ → Type 0
KeptStops file r = Stops file true (leaving_set file) (λ a v. cond (passes_kept file a v) every_version 0) r

-- the pass for the versions that paths bring, dropped labels included
abbrev pub BroughtStops : List ℕ → ℕ → Type 0
BroughtStops file r = Stops file false (brought_gives file) (brought_passes file) r

-- the vertices that are reached are found first: by their pass, or by none and r is 0, since all of them are
abbrev pub ReachedFirst : List ℕ → ℕ → Type 0
ReachedFirst file r = ReachedStops file r ⊎ ((r ≡ 0) × AllReached file)
