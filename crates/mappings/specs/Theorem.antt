-- Document 02, request 4: at each reference on a path from the entry the mapping that the directives give is that of the version which the
-- converted routine names.
-- Assumes nothing.
use Rattle.std.specs.Prelude.{◌≡◌, ◌||◌, List, ◌↔◌, ℕ, ◌≤◌, ◌<◌, T, eqb, length, get_or}
use Rattle.std.proofs.Math.Option.{some}
use Rattle.flow.specs.Paths.{Edge}
use Rattle.flow.specs.Solver.{Ends}
use Rattle.labels.specs.Events.{event, is_label, version}
use Rattle.labels.specs.Reaching.{ArrivesBy, last_version}
use Rattle.routine.specs.Actions.{action_of, is_reference}
use Rattle.sets.specs.Sets.{width}
use Rattle.directives.specs.Layout.{templates, arrays, vertices, entry, exit, reference_at, edge_bytes}
use Rattle.directives.specs.Directives.{directive}
use Rattle.directives.specs.declared.array.Alignment.{Alignment}
use Rattle.directives.specs.declared.spread.Mapping.{Mapping}
use Rattle.directives.specs.declared.vertex.Directive.TheVariants.{Nothing, Realign}
use Rattle.mappings.specs.Along.{initial_state, state_by, mapping}
use Rattle.mappings.specs.Converted.{is_listed, versions, converted_by}
use Rattle.mappings.specs.Rules.{Gives, InTwo}

-- a template of the file, straight or exchanged
abbrev pub Right : List ℕ → Alignment → Type 0
Right file x = (x.template < templates file) × (x.exchanged < 2)

-- what check 40 leaves
pub record Formed (file : List ℕ) : Type 0 where
  pub some_vertex : 0 < vertices file
  pub few_templates : templates file ≤ 8
  pub aligned : (a : ℕ) → a < arrays file → Right file ((initial_state file).aligned a)
  pub realigned : (v b : ℕ) (x : Alignment) → v < vertices file → directive file v ≡ Realign b x → Right file x
  pub ends : Ends (edge_bytes file) (vertices file)
  pub none_enters : (v : ℕ) → Edge (edge_bytes file) v entry → ⊥
  pub none_leaves : (v : ℕ) → Edge (edge_bytes file) (exit file) v → ⊥
  pub entry_silent : directive file entry ≡ Nothing
  pub references : (v a : ℕ) → v < vertices file → a < arrays file
      → T (eqb (get_or file (reference_at file v a) 0) 0 || is_reference (action_of (get_or file (reference_at file v a) 0)))

-- an accepted file, with lists of what its directives give
pub record Accepted (file : List ℕ) (given : ℕ → ℕ → List Mapping) : Type 0 where
  pub formed : Formed file
  -- the lists are those of the rule by paths
  pub exact : (a v : ℕ) → a < arrays file → v < vertices file → (m : Mapping) → T (is_listed m (given a v)) ↔ Gives file a v m
  -- 41
  pub few : (a : ℕ) → a < arrays file → length (versions file given a) ≤ width
  -- 42
  pub single : (a v : ℕ) → a < arrays file → v < vertices file → InTwo file a v → ⊥

-- where a path has these vertices before, the version that the routine names is that of the mapping which the directives give
pub record Names (file : List ℕ) (given : ℕ → ℕ → List Mapping) (a : ℕ) (before : List ℕ) : Type 0 where
  pub named : ℕ
  pub last : last_version (is_label (converted_by file given) a) (version (converted_by file given) a) before ≡ some named
  pub listed : named < length (versions file given a)
  pub same : (d : Mapping) → get_or (versions file given a) named d ≡ mapping (state_by file before) a

-- for each path from the entry and each reference at its end
abbrev pub KeepsMappings : List ℕ → (ℕ → ℕ → List Mapping) → Type 0
KeepsMappings file given =
    (a v : ℕ) (before : List ℕ) → a < arrays file → ArrivesBy (converted_by file given) before v
    → T (is_reference (event (converted_by file given) a v)) → Names file given a before
