-- Document 01, "Labels": what a vertex does with an array once the entry and the exit are labels.
-- Assumes nothing.
use Rattle.std.specs.Prelude.{Bool, true, false, ◌&&◌, ◌||◌, cond, List, ℕ, ◌^◌, eqb, drop}
use Rattle.routine.specs.declared.action.Access.TheVariants.{Read, Define, Modify, Kill}
use Rattle.routine.specs.declared.action.Action.{Action}
use Rattle.routine.specs.declared.action.Action.TheVariants.{Nothing, Reference, Remap, Unknown}
use Rattle.routine.specs.Actions.{action, is_remap}
use Rattle.routine.specs.Arrays.{array_of, kind, initial, is_out_or_inout}
use Rattle.routine.specs.Layout.{vertices, entry, exit, edges_at}
use Rattle.flow.specs.Solver.{solution}
use Rattle.words.specs.Tables.{table}

-- the bytes of the edges
abbrev pub edge_bytes : List ℕ → List ℕ
edge_bytes file = drop (edges_at file) file

-- the sets that the solver makes of what each vertex gives and passes, along the edges or against them
abbrev pub solved_sets : List ℕ → Bool → (ℕ → ℕ) → (ℕ → ℕ) → List ℕ
solved_sets file along gives passes =
    solution (edge_bytes file) along (table gives (vertices file)) (table passes (vertices file)) (vertices file)

-- ---- events: entry labels every array as a remapping to its initial version; exit labels every out and inout argument so

-- what vertex v does with array a
unfoldable pub event : List ℕ → ℕ → ℕ → Action
unfolding array_of action
event file a v =
    cond (eqb v entry || (eqb v (exit file) && is_out_or_inout (kind file a))) (Remap (initial file a)) (action file a v)

-- a label is a remapping; a remap action is a label even if that version already reaches it
abbrev pub is_label : List ℕ → ℕ → ℕ → Bool
is_label file a v = is_remap (event file a v)

-- a label's version
abbrev pub version_of : Action → ℕ
version_of Nothing = 0
version_of (Reference r) = 0
version_of (Remap k) = k
version_of Unknown = 0

-- as a set; empty if there is no label
abbrev pub version_set : Action → ℕ
version_set x = cond (is_remap x) (2 ^ version_of x) 0

-- the version of the label at v
unfoldable pub version : List ℕ → ℕ → ℕ → ℕ
unfolding event
version file a v = version_of (event file a v)

-- ---- tests of events

-- a read
abbrev pub is_read : Action → Bool
is_read Nothing = false
is_read (Reference Read) = true
is_read (Reference Define) = false
is_read (Reference Modify) = false
is_read (Reference Kill) = false
is_read (Remap k) = false
is_read Unknown = false

-- a define; a kill is one
abbrev pub is_define : Action → Bool
is_define Nothing = false
is_define (Reference Read) = false
is_define (Reference Define) = true
is_define (Reference Modify) = false
is_define (Reference Kill) = true
is_define (Remap k) = false
is_define Unknown = false

-- a modify
abbrev pub is_modify : Action → Bool
is_modify Nothing = false
is_modify (Reference Read) = false
is_modify (Reference Define) = false
is_modify (Reference Modify) = true
is_modify (Reference Kill) = false
is_modify (Remap k) = false
is_modify Unknown = false

-- a define or modify
abbrev pub is_write : Action → Bool
is_write x = is_define x || is_modify x

-- a read, a modify or a label
abbrev pub needs_value : Action → Bool
needs_value x = is_read x || is_modify x || is_remap x
