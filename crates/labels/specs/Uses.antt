-- Document 01, "Labels": segments; use, one letter; leaving version; kept labels.
-- Assumes nothing.
use Rattle.std.specs.Prelude.{◌≡◌, Bool, true, false, not, ◌&&◌, cond, List, ℕ, T, eqb, get_or}
use Rattle.flow.specs.Paths.{Path, Finds}
use Rattle.flow.specs.Solver.{solution}
use Rattle.routine.specs.Actions.{is_reference, is_remap}
use Rattle.routine.specs.Layout.{exit}
use Rattle.routine.specs.declared.action.Access.TheVariants.{Read, Define, Modify, Kill}
use Rattle.routine.specs.declared.action.Action.{Action}
use Rattle.routine.specs.declared.action.Action.TheVariants.{Nothing, Reference, Remap, Unknown}
use Rattle.sets.specs.Sets.{has}
use Rattle.labels.specs.declared.Use.{Use}
use Rattle.labels.specs.declared.Use.TheVariants.{N, D, R, W}
use Rattle.labels.specs.Events.{edge_bytes, solved_sets, event, is_label, version, is_read, is_define, is_write, needs_value}

-- ---- segments

-- a segment: a path from a label at v that goes no further than the array's next label; `events` are those of the array
abbrev pub Segment : List ℕ → (ℕ → Action) → ℕ → ℕ → Type 0
Segment es events v w = Path es (λ u. not (is_remap (events u))) v w

-- a segment with no define before its end
abbrev pub UndefinedSegment : List ℕ → (ℕ → Action) → ℕ → ℕ → Type 0
UndefinedSegment es events v w = Path es (λ u. not (is_remap (events u)) && not (is_define (events u))) v w

-- some segment from v meets an event that passes the test
abbrev pub Meets : List ℕ → ℕ → (Action → Bool) → ℕ → Type 0
Meets file a test v = Finds (Segment (edge_bytes file) (event file a)) (λ w. T (test (event file a w))) v

-- some segment from v meets such an event without a define before it
abbrev pub MeetsUndefined : List ℕ → ℕ → (Action → Bool) → ℕ → Type 0
MeetsUndefined file a test v = Finds (UndefinedSegment (edge_bytes file) (event file a)) (λ w. T (test (event file a w))) v

-- ---- use, one letter, by segments

-- N: no segment meets a reference
abbrev pub Unused : List ℕ → ℕ → ℕ → Type 0
Unused file a v = Meets file a is_reference v → ⊥

-- D: not N, and no segment meets a read, a modify or the next label without a define before it
abbrev pub Defined : List ℕ → ℕ → ℕ → Type 0
Defined file a v = (Unused file a v → ⊥) × (MeetsUndefined file a needs_value v → ⊥)

-- R: some segment meets a read, none a define or modify
abbrev pub OnlyRead : List ℕ → ℕ → ℕ → Type 0
OnlyRead file a v = Meets file a is_read v × (Meets file a is_write v → ⊥)

-- the rule of each letter; W: all else
abbrev pub Rule : List ℕ → ℕ → ℕ → Use → Type 0
Rule file a v N = Unused file a v
Rule file a v D = Defined file a v
Rule file a v R = OnlyRead file a v
Rule file a v W = (Unused file a v → ⊥) × (Defined file a v → ⊥) × (OnlyRead file a v → ⊥)

-- the letter of the label at v; at the exit W for out and inout, which alone have a label there (document 02, request 1)
pub record IsUse (file : List ℕ) (a v : ℕ) (u : Use) : Type 0 where
  pub at_exit : v ≡ exit file → u ≡ W
  pub elsewhere : (v ≡ exit file → ⊥) → Rule file a v u

-- ---- use, computed: bit 0 a reference met; bit 1 a read, a modify or a label met with no define before; bit 2 a read; bit 3 a write.
-- A reader may skip from here to `is_n`: that the letter so computed is the rules' is `letters` of `Demand2`

-- what an event gives
abbrev pub use_gives : Action → ℕ
use_gives Nothing = 0b0000
use_gives (Reference Read) = 0b0111
use_gives (Reference Define) = 0b1001
use_gives (Reference Modify) = 0b1011
use_gives (Reference Kill) = 0b1001
use_gives (Remap k) = 0b0010
use_gives Unknown = 0b0000

-- a label passes nothing, a define all but bit 1
abbrev pub use_passes : Action → ℕ
use_passes Nothing = 0b1111
use_passes (Reference Read) = 0b1111
use_passes (Reference Define) = 0b1101
use_passes (Reference Modify) = 0b1111
use_passes (Reference Kill) = 0b1101
use_passes (Remap k) = 0b0000
use_passes Unknown = 0b1111

-- the same by what is given
abbrev pub passes_by : ℕ → ℕ
passes_by gives = cond (eqb gives 0b0010) 0b0000 (cond (eqb gives 0b1001) 0b1101 0b1111)

-- the sets of use of the vertices
unfoldable pub use_sets : List ℕ → ℕ → List ℕ
unfolding solution event
use_sets file a = solved_sets file true (λ v. use_gives (event file a v)) (λ v. use_passes (event file a v))

-- the letter that a set of use says
abbrev pub letter_of : ℕ → Use
letter_of m = cond (not (has m 0)) N (cond (not (has m 1)) D (cond (has m 2 && not (has m 3)) R W))

-- the letter of the label at v
unfoldable pub use_of : List ℕ → ℕ → ℕ → Use
unfolding use_sets has
use_of file a v = cond (eqb v (exit file)) W (letter_of (get_or (use_sets file a) v 0))

-- ---- leaving: the label's version, or none for N; a label is kept if it is not N

-- the letter N
abbrev pub is_n : Use → Bool
is_n N = true
is_n D = false
is_n R = false
is_n W = false

-- v is a kept label
unfoldable pub is_kept : List ℕ → ℕ → ℕ → Bool
unfolding event use_of
is_kept file a v = is_label file a v && not (is_n (use_of file a v))

-- v is a label that leaves with version k
abbrev pub Leaves : List ℕ → ℕ → ℕ → ℕ → Type 0
Leaves file a v k = T (is_kept file a v) × (version file a v ≡ k)

-- the leaving version of the label at v as the plan has it, 255 for none
unfoldable pub leaving_byte : List ℕ → ℕ → ℕ → ℕ
unfolding use_of version
leaving_byte file a v = cond (is_n (use_of file a v)) 255 (version file a v)
