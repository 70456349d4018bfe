-- Document 01, "Labels": kept sets. The letters are the computed ones, which are the rules' letters (`letters` of `Demand2`).
-- Assumes nothing.
use Rattle.std.specs.Prelude.{Bool, true, false, not, ◌||◌, cond, List, ◌⊎◌, ℕ, ◌^◌, T, get_or}
use Rattle.std.specs.Int.Bits.{bit_or}
use Rattle.flow.specs.Paths.{Path, Finds}
use Rattle.flow.specs.Solver.{solution}
use Rattle.labels.specs.declared.Use.{Use}
use Rattle.labels.specs.declared.Use.TheVariants.{N, D, R, W}
use Rattle.labels.specs.Events.{edge_bytes, solved_sets, event, is_label, version}
use Rattle.labels.specs.Uses.{use_of, is_kept, Leaves}
use Rattle.sets.specs.Sets.{every_version}

-- the letters whose kept set goes on to the next label
abbrev pub is_n_or_r : Use → Bool
is_n_or_r N = true
is_n_or_r D = false
is_n_or_r R = true
is_n_or_r W = false

-- no label, or one that is N or R
unfoldable pub passes_kept : List ℕ → ℕ → ℕ → Bool
unfolding event use_of
passes_kept file a v = not (is_label file a v) || is_n_or_r (use_of file a v)

-- ---- by paths

-- some path from v arrives at a label that leaves with k while every label from v up to it, v included and it excluded, is N or R
abbrev pub KeepsFor : List ℕ → ℕ → ℕ → ℕ → Type 0
KeepsFor file a v k = T (is_n_or_r (use_of file a v)) × Finds (Path (edge_bytes file) (passes_kept file a)) (λ w. Leaves file a w k) v

-- k is in the kept set of v: the leaving version if there is one; also each that v keeps for a later label
abbrev pub InKept : List ℕ → ℕ → ℕ → ℕ → Type 0
InKept file a v k = Leaves file a v k ⊎ KeepsFor file a v k

-- ---- computed

-- the leaving version at v as a set
unfoldable pub leaving_set : List ℕ → ℕ → ℕ → ℕ
unfolding is_kept version
leaving_set file a v = cond (is_kept file a v) (2 ^ version file a v) 0

-- what the vertices keep for later labels
unfoldable pub kept_sets : List ℕ → ℕ → List ℕ
unfolding solution leaving_set passes_kept
kept_sets file a = solved_sets file true (leaving_set file a) (λ v. cond (passes_kept file a v) every_version 0)

-- the kept set at v, computed
unfoldable pub kept_of : List ℕ → ℕ → ℕ → ℕ
unfolding leaving_set kept_sets use_of
kept_of file a v = bit_or (leaving_set file a v) (cond (is_n_or_r (use_of file a v)) (get_or (kept_sets file a) v 0) 0)
