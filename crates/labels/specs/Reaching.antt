-- Document 01, "Labels": reaching sets.
-- Assumes nothing.
use Rattle.std.specs.Prelude.{◌≡◌, Bool, false, ◌&&◌, ◌||◌, cond, List, [], ◌∷◌, ℕ, ◌^◌, eqb, get_or}
use Rattle.std.proofs.Math.Option.{Option, none, some}
use Rattle.flow.specs.Paths.{Joined}
use Rattle.flow.specs.Solver.{solution}
use Rattle.routine.specs.Layout.{vertices, entry}
use Rattle.sets.specs.Sets.{has, every_version}
use Rattle.words.specs.Tables.{table}
use Rattle.labels.specs.Events.{edge_bytes, solved_sets, version}
use Rattle.routine.specs.Arrays.{kind, initial, is_in_or_inout}
use Rattle.labels.specs.Uses.{is_kept}

-- ---- by paths

-- a path from the entry to v over the bytes of any edges, as the list of the vertices before v
abbrev pub Arrives : List ℕ → List ℕ → ℕ → Type 0
Arrives es [] v = v ≡ entry
Arrives es (u ∷ us) v = (u ≡ entry) × Joined es u us v

-- over those of a routine
abbrev pub ArrivesBy : List ℕ → List ℕ → ℕ → Type 0
ArrivesBy file before v = Arrives (edge_bytes file) before v

-- the later of two versions, if there is one
abbrev pub or_last : Option ℕ → Option ℕ → Option ℕ
or_last earlier none = earlier
or_last earlier (some k) = some k

-- the version of the last vertex of a list that passes a test
abbrev pub last_version : (ℕ → Bool) → (ℕ → ℕ) → List ℕ → Option ℕ
last_version test version [] = none
last_version test version (u ∷ us) = or_last (cond (test u) (some (version u)) none) (last_version test version us)

-- where no kept label lies before, in and inout bring the initial version
abbrev pub or_initial : List ℕ → ℕ → Option ℕ → Option ℕ
or_initial file a none = cond (is_in_or_inout (kind file a)) (some (initial file a)) none
or_initial file a (some k) = some k

-- some path from the entry to v brings k, read off the vertices before v
pub record BroughtBy (file : List ℕ) (read : List ℕ → Option ℕ) (v k : ℕ) : Type 0 where
  pub before : List ℕ
  pub path : ArrivesBy file before v
  pub brings : read before ≡ some k

-- k is in the reaching set of v: some path from the entry to v has k as the leaving version of its last kept label before v;
-- also if no kept label lies before v there, k is the initial version and the array is in or inout.
-- `is_kept` goes by the computed letter, which is the rules' letter (`letters` of `Demand2`)
abbrev pub Reaches : List ℕ → ℕ → ℕ → ℕ → Type 0
Reaches file a v k = BroughtBy file (λ before. or_initial file a (last_version (is_kept file a) (version file a) before)) v k

-- ---- computed: first which vertices some path from the entry reaches

-- bit 0 where a path of one edge or more from the entry arrives, over edges among n vertices
unfoldable pub reached_over : List ℕ → ℕ → List ℕ
unfolding solution
reached_over es n = solution es false (table (λ v. cond (eqb v entry) 1 0) n) (table (λ v. 1) n) n

-- v is the entry, or some path from the entry arrives there
unfoldable pub is_reached_over : List ℕ → ℕ → ℕ → Bool
unfolding reached_over has
is_reached_over es n v = eqb v entry || has (get_or (reached_over es n) v 0) 0

-- the same over the edges of a routine
abbrev pub reached_sets : List ℕ → List ℕ
reached_sets file = reached_over (edge_bytes file) (vertices file)

abbrev pub is_reached : List ℕ → ℕ → Bool
is_reached file v = is_reached_over (edge_bytes file) (vertices file) v

-- a kept label that a path from the entry reaches gives its version; so does the entry of in and inout, kept or not
unfoldable pub reach_gives : List ℕ → ℕ → ℕ → ℕ
unfolding is_reached_over is_kept version
reach_gives file a v =
    cond (is_reached file v && (is_kept file a v || (eqb v entry && is_in_or_inout (kind file a)))) (2 ^ version file a v) 0

-- what is no kept label passes every version
unfoldable pub reach_passes : List ℕ → ℕ → ℕ → ℕ
unfolding is_kept
reach_passes file a v = cond (is_kept file a v) 0 every_version

-- what reaches the vertices by paths of one edge or more
unfoldable pub reach_sets : List ℕ → ℕ → List ℕ
unfolding solution reach_gives reach_passes
reach_sets file a = solved_sets file false (reach_gives file a) (reach_passes file a)

-- the entry's own set comes from the path of no edge
unfoldable pub reaching_of : List ℕ → ℕ → ℕ → ℕ
unfolding reach_sets
reaching_of file a v =
    cond (eqb v entry) (cond (is_in_or_inout (kind file a)) (2 ^ initial file a) 0) (get_or (reach_sets file a) v 0)
