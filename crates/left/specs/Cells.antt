-- How the code keeps it: what each vertex gives to the sets of a pass and passes, cell by cell; what is left by paths that a redistribute does
-- not concern.
-- Assumes nothing.
use Rattle.std.specs.Prelude.{Bool, false, not, cond, List, ℕ, eqb}
use Rattle.sets.specs.Sets.{every_version, every_half}
use Rattle.directives.specs.Directives.{directive}
use Rattle.directives.specs.Layout.{entry}
use Rattle.directives.specs.declared.vertex.Directive.{Directive}
use Rattle.directives.specs.declared.vertex.Directive.TheVariants.{Nothing, Realign, Redistribute}
use Rattle.mappings.specs.Along.{initial_state}
use Rattle.mappings.specs.Computed.{aligns_with, changes, elsewhere, left_by}

-- what vertex v gives array a with template t, where its directive gives these versions
unfoldable pub held_gives : List ℕ → ℕ → ℕ → ℕ → ℕ → ℕ
unfolding directive
held_gives file t a v given =
    cond (eqb v entry) (cond (eqb ((initial_state file).aligned a).template t) 1 0) (cond (aligns_with t (directive file v)) given 0)

-- what it passes
unfoldable pub held_passes : List ℕ → ℕ → ℕ → ℕ → ℕ
unfolding directive
held_passes file t a v = cond (changes a t (directive file v)) 0 every_version

-- what it passes of each half
unfoldable pub held_halves : List ℕ → ℕ → ℕ → ℕ → ℕ
unfolding directive
held_halves file t a v = cond (changes a t (directive file v)) 0 every_half

-- a redistribute of another template than t
abbrev pub redistributes_other : ℕ → Directive → Bool
redistributes_other t Nothing = false
redistributes_other t (Realign b x) = false
redistributes_other t (Redistribute s m) = not (eqb t s)

-- what it leaves of the versions that paths bring with the first n templates
abbrev pub others_by : List ℕ → ℕ → ℕ → ℕ → Directive → ℕ
others_by file n a v Nothing = 0
others_by file n a v (Realign b x) = 0
others_by file n a v (Redistribute t m) = elsewhere file a v t n

-- by the directive at v
unfoldable pub others_to : List ℕ → ℕ → ℕ → ℕ → ℕ
unfolding directive elsewhere
others_to file n a v = others_by file n a v (directive file v)

-- with all
unfoldable pub others_at : List ℕ → ℕ → ℕ → ℕ
unfolding directive elsewhere
others_at file a v = left_by file a v (directive file v)
