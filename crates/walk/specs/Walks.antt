-- How the code keeps it: what the functions that follow the path are handed, and what they leave.
-- Assumes nothing.
use Rattle.std.specs.Prelude.{◌≡◌, Bool, true, false, cond, List, ℕ, ◌*◌, ◌<◌, eqb, length, get_or}
use Rattle.labels.specs.Events.{event}
use Rattle.routine.specs.Layout.{arrays, exit}
use Rattle.labels.specs.Kept.{kept_of}
use Rattle.labels.specs.Uses.{use_of}
use Rattle.routine.specs.Actions.{action, is_reference, is_remap}
use Rattle.routine.specs.Arrays.{array_of}
use Rattle.sets.specs.Sets.{width}
use Rattle.state.specs.Carrying.{whole, carrying, Carries, row_of, OtherRows}
use Rattle.state.specs.Cleaning.{callers}
use Rattle.state.specs.Exit.{left}
use Rattle.state.specs.Stamps.{stamp_by}
use Rattle.state.specs.Vertex.{labelled, relabelled, Ready}
use Rattle.state.specs.States.{State, has_current, stamp_of}
use Rattle.state.specs.declared.Carried.{Carried}
use Rattle.report.specs.Records.{records_at}
use Rattle.report.specs.Bytes.{carried_of, records_bytes}
use Rattle.words.specs.Tables.{rows, replaced, wrote}

-- an array's state, held as a carried state, its current version, the stamp of its current copy, and a row of stamps
pub record Stands (own : ℕ) (want : State) (c : Carried) (version stamp : ℕ) (row : ℕ → ℕ) : Type 0 where
  pub is : Carries own want (carrying stamp c) row
  pub version_is : version ≡ c.current

-- the states of the first m arrays
pub record Held (file : List ℕ) (want : ℕ → State) (m : ℕ) (states : List Carried) (versions stamps others : List ℕ) : Type 0 where
  pub states_sized : length states ≡ 8
  pub versions_sized : length versions ≡ 8
  pub stamps_sized : length stamps ≡ 8
  pub others_sized : length others ≡ 8 * width
  pub stand : (b : ℕ) → b < m → Stands (callers (array_of file b)) (want b) (carried_of states b) (get_or versions b 0) (get_or stamps b 0) (row_of others b)

-- state s as the report is written from it, with the stamp of its current copy
pub record Reported (s : State) (c : Carried) : Type 0 where
  pub is : s ≡ whole c s.stamps
  pub stamp_is : has_current s ≡ true → c.stamp ≡ stamp_of s s.current

-- the bytes of array a at vertex v: a record, if it is referenced there
abbrev pub cell_bytes : List ℕ → ℕ → ℕ → List ℕ → List ℕ → ℕ → List ℕ
cell_bytes file v step versions stamps a = records_bytes (records_at (event file a v) step a (get_or versions a 0) (get_or stamps a 0))

-- those of all arrays
unfoldable pub row_bytes : List ℕ → ℕ → ℕ → List ℕ → List ℕ → List ℕ
unfolding rows event
row_bytes file v step versions stamps = rows (cell_bytes file v step versions stamps) (arrays file)

-- the stamp of array a's current copy after vertex v, if it has no label there
abbrev pub stamp_at : List ℕ → ℕ → ℕ → List ℕ → ℕ → ℕ
stamp_at file v step stamps a = stamp_by (event file a v) step (get_or stamps a 0)

-- the references of vertex v: the records, and the stamps after them
pub record Referred (file : List ℕ) (v step : ℕ) (versions before old : List ℕ) (bytes : ℕ) (after new : List ℕ) : Type 0 where
  pub length_is : bytes ≡ length (row_bytes file v step versions before)
  pub out_is : new ≡ wrote old (row_bytes file v step versions before)
  pub stamps_are : after ≡ replaced before 0 (stamp_at file v step before) (arrays file)

-- what the answer whether the row of vertex v remaps tells: if yes it has no references, if no it has no remappings
abbrev pub OneSort : List ℕ → ℕ → Bool → Type 0
OneSort file v remaps = (b : ℕ) → b < arrays file → cond remaps (is_reference (action file b v)) (is_remap (action file b v)) ≡ false

-- vertex v has no labels, and is neither entry nor exit
pub record Unlabelled (file : List ℕ) (v : ℕ) : Type 0 where
  pub inner : eqb v (exit file) ≡ false
  pub as_read : (b : ℕ) → event file b v ≡ action file b v
  pub no_label : (b : ℕ) → b < arrays file → is_remap (event file b v) ≡ false

-- what the answer whether vertex v may have labels tells: if yes it has no references, if no it has no labels
abbrev pub Labels : List ℕ → ℕ → Bool → Type 0
Labels file v true = (b : ℕ) → b < arrays file → is_reference (event file b v) ≡ false
Labels file v false = Unlabelled file v

-- an array's label at vertex v, and the exit
unfoldable pub relabelled_at : List ℕ → ℕ → ℕ → State → State
unfolding array_of event use_of kept_of labelled
relabelled_at file a v s = left (array_of file a) (eqb v (exit file)) (relabelled (array_of file a) (event file a v) (use_of file a v) (kept_of file a v) s)

-- what is carried of array a, and the table, before and after its label at vertex v and the exit: the other rows stay, and the rule holds
pub record RelabelledAt (file : List ℕ) (a v : ℕ) (c : Carried) (old : List ℕ) (n : Carried) (new : List ℕ) : Type 0 where
  pub sized : length new ≡ length old
  pub other_rows : OtherRows a old new
  pub rule : (s : State) → Ready s → Carries (callers (array_of file a)) s c (row_of old a) → Carries (callers (array_of file a)) (relabelled_at file a v s) n (row_of new a)
