-- Document 02, request 4: what the directives mean along a path. Each template has a spread and each array an alignment; a realign gives its
-- array an alignment, a redistribute gives its template a spread, and an array's mapping is the spread of its template, its two dimensions
-- exchanged if the alignment is.
-- Assumes nothing.
use Rattle.std.specs.Prelude.{Bool, false, ◌&&◌, cond, List, [], ◌∷◌, ℕ, ◌+◌, eqb}
use Rattle.directives.specs.Directives.{spread_at, alignment_at, directive}
use Rattle.directives.specs.Layout.{template_at, array_at}
use Rattle.directives.specs.declared.array.Alignment.{Alignment}
use Rattle.directives.specs.declared.spread.Mapping.{Mapping}
use Rattle.directives.specs.declared.vertex.Directive.{Directive}
use Rattle.directives.specs.declared.vertex.Directive.TheVariants.{Nothing, Realign, Redistribute}

-- ---- mappings: how the two dimensions of a template or an array are spread, each as it is written

-- both dimensions are spread alike
abbrev pub alike : Mapping → Mapping → Bool
alike m n = eqb m.first n.first && eqb m.second n.second

-- the two dimensions exchanged, if e is 1
abbrev pub turned : ℕ → Mapping → Mapping
turned e m = cond (eqb e 1) (record { first = m.second; second = m.first }) m

-- ---- along a path

-- at a point of a path: the spread of each template and the alignment of each array
pub record State : Type 0 where
  pub spread : ℕ → Mapping
  pub aligned : ℕ → Alignment

-- `distribute` and `align`: how templates and arrays start
abbrev pub initial_state : List ℕ → State
initial_state file = record { spread = λ t. spread_at file (template_at t); aligned = λ a. alignment_at file (array_at file a + 1) }

-- one of them given anew, the others as they were
abbrev pub updated : {A : Type 0} → (ℕ → A) → ℕ → A → ℕ → A
updated f i x j = cond (eqb j i) x (f j)

-- what a directive does
abbrev pub after : Directive → State → State
after Nothing s = s
after (Realign a x) s = record { spread = s.spread; aligned = updated s.aligned a x }
after (Redistribute t m) s = record { spread = updated s.spread t m; aligned = s.aligned }

-- the vertices of a path taken in order
unfoldable pub along : List ℕ → State → List ℕ → State
unfolding directive
along file s [] = s
along file s (u ∷ us) = along file (after (directive file u) s) us

-- after these vertices from the entry on
abbrev pub state_by : List ℕ → List ℕ → State
state_by file before = along file (initial_state file) before

-- an array's mapping: the spread of its template, exchanged if its alignment is
abbrev pub mapping : State → ℕ → Mapping
mapping s a = turned (s.aligned a).exchanged (s.spread (s.aligned a).template)

-- a directive remaps an array: a realign its own, a redistribute each that is then aligned with its template
abbrev pub remaps_in : State → Directive → ℕ → Bool
remaps_in s Nothing a = false
remaps_in s (Realign b x) a = eqb a b
remaps_in s (Redistribute t m) a = eqb (s.aligned a).template t
