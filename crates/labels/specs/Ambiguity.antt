-- The mission's demand 2 and refusal 21: a reference is ambiguous if two paths from the entry bring different versions to it.
-- Assumes nothing.
use Rattle.std.specs.Prelude.{◌≡◌, Bool, false, ◌&&◌, cond, List, ℕ, ◌^◌, T, get_or}
use Rattle.flow.specs.Solver.{solution}
use Rattle.routine.specs.Actions.{is_reference}
use Rattle.sets.specs.Sets.{several, every_version}
use Rattle.labels.specs.Events.{solved_sets, event, is_label, version}
use Rattle.labels.specs.Reaching.{last_version, BroughtBy, is_reached_over, is_reached, reaching_of}

-- ---- by paths

-- some path from the entry brings version k to v: it is that of the last label before v, dropped ones included
abbrev pub Brings : List ℕ → ℕ → ℕ → ℕ → Type 0
Brings file a v k = BroughtBy file (last_version (is_label file a) (version file a)) v k

-- a reference to which two paths bring different versions
pub record Ambiguous (file : List ℕ) (a v : ℕ) : Type 0 where
  pub reference : T (is_reference (event file a v))
  pub first : ℕ
  pub second : ℕ
  pub differ : first ≡ second → ⊥
  pub brings_first : Brings file a v first
  pub brings_second : Brings file a v second

-- ---- computed

-- a label that a path from the entry reaches gives its version
unfoldable pub brought_gives : List ℕ → ℕ → ℕ → ℕ
unfolding is_reached_over event version
brought_gives file a v = cond (is_reached file v && is_label file a v) (2 ^ version file a v) 0

-- what is no label passes every version
unfoldable pub brought_passes : List ℕ → ℕ → ℕ → ℕ
unfolding event
brought_passes file a v = cond (is_label file a v) 0 every_version

-- what paths bring to the vertices
unfoldable pub brought_sets : List ℕ → ℕ → List ℕ
unfolding solution brought_gives brought_passes
brought_sets file a = solved_sets file false (brought_gives file a) (brought_passes file a)

-- the versions that paths bring to v
unfoldable pub brought_of : List ℕ → ℕ → ℕ → ℕ
unfolding brought_sets
brought_of file a v = get_or (brought_sets file a) v 0

-- the last label before a reference meets it and so is kept: the versions that paths bring to a reference are those that reach it.
-- Ones of that mask counted; above one at a reference means 21
unfoldable pub is_ambiguous : List ℕ → ℕ → ℕ → Bool
unfolding reaching_of event
is_ambiguous file a v = is_reference (event file a v) && several (reaching_of file a v)
