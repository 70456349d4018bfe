-- How the code keeps it: tables of the label rules, a column for each array.
-- Assumes nothing.
use Rattle.std.specs.Prelude.{◌≡◌, Bool, ◌||◌, List, ℕ, ◌+◌, ◌*◌, ◌<◌, ltb, length, get_or}
use Rattle.flow.specs.Cells as columns
use Rattle.routine.specs.Layout.{arrays, vertices}
use Rattle.sets.specs.Sets.{has}
use Rattle.labels.specs.Events.{edge_bytes, event, version_set}
use Rattle.labels.specs.Kept.{kept_of}
use Rattle.labels.specs.Letters.{letter_byte}
use Rattle.labels.specs.Reaching.{reached_sets}
use Rattle.labels.specs.Uses.{use_gives, use_of}

-- a number for each array and vertex
abbrev pub Cells : List ℕ → (ℕ → ℕ → ℕ) → List ℕ → Type 0
Cells file f s = columns.Cells (arrays file) (vertices file) f s

-- the same, and nothing in the columns beyond the arrays
pub record CellsAlone (file : List ℕ) (f : ℕ → ℕ → ℕ) (s : List ℕ) : Type 0 where
  pub size : length s ≡ 8 * vertices file
  pub cells : (a v : ℕ) → a < arrays file → v < vertices file → get_or s (8 * v + a) 0 ≡ f a v
  pub beyond : columns.NoneBeyond (arrays file) (vertices file) s

-- whether cell i is the entry's, or its set says that a path from the entry reaches it
abbrev pub reached_cell : ℕ → ℕ → Bool
reached_cell i set = ltb i 8 || has set 0

-- ---- the tables

-- a label's version as a set
abbrev pub Versions : List ℕ → List ℕ → Type 0
Versions file s = CellsAlone file (λ a v. version_set (event file a v)) s

-- what events give to the sets of use
abbrev pub UseGives : List ℕ → List ℕ → Type 0
UseGives file s = CellsAlone file (λ a v. use_gives (event file a v)) s

-- which vertices a path from the entry reaches
abbrev pub Reached : List ℕ → List ℕ → Type 0
Reached file s = Cells file (λ a v. get_or (reached_sets file) v 0) s

-- the letters
abbrev pub Letters : List ℕ → List ℕ → Type 0
Letters file s = Cells file (λ a v. letter_byte (use_of file a v)) s

-- letters and kept sets: what a run reads of the plan
pub record LettersAndKept (file letters kept : List ℕ) : Type 0 where
  pub letters_are : Letters file letters
  pub kept_are : Cells file (kept_of file) kept

-- ---- a pass over the edges of the file
abbrev pub Pass : List ℕ → Bool → List ℕ → List ℕ → List ℕ → Type 0
Pass file along gives passes sets = columns.Pass (edge_bytes file) (vertices file) along gives passes sets
