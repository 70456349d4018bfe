-- The reader's answer, and what a routine that was read has.
-- Assumes nothing.
use Rattle.std.specs.Prelude.{◌≡◌, true, List, ℕ, ◌+◌, ◌-◌, ◌≤◌, ◌<◌, length, Result, Ok, Err}
use Rattle.routine.specs.declared.action.Access.{Access}
use Rattle.routine.specs.declared.action.Action.TheVariants.{Nothing, Reference, Remap}
use Rattle.routine.specs.declared.array.ArrayRecord.{ArrayRecord}
use Rattle.routine.specs.declared.edge.Edge.{Edge}
use Rattle.routine.specs.declared.header.Header.{Header}
use Rattle.flow.specs.Order.{max_edges}
use Rattle.refusal.specs.declared.Refusal.{Refusal}
use Rattle.routine.specs.Actions.{action, action_check, actions_check}
use Rattle.routine.specs.Arrays.{array_of, array_check, check14}
use Rattle.refusal.specs.Checks.{Verdict, ◌and_then◌}
use Rattle.refusal.specs.Replies.{Reply}
use Rattle.routine.specs.Edges.{edge_of, before, edge_check, check16}
use Rattle.routine.specs.Layout.{arrays, vertices, edges, entry, exit, end_at, header_of, check10, check11, check12, check13}
use Rattle.sets.specs.Sets.{width}

-- 10 to 13
unfoldable pub form_check : List ℕ → Verdict
unfolding check10 check11 check12 check13
form_check file = check10 file and_then check11 file and_then check12 file and_then check13 file

-- 14, then 15 with 17, 18 and 19, then 16
unfoldable pub body_check : List ℕ → Verdict
unfolding check14 actions_check check16
body_check file = check14 file and_then actions_check file and_then check16 file

-- 10 to 19
unfoldable pub read_check : List ℕ → Verdict
unfolding form_check body_check
read_check file = form_check file and_then body_check file

-- what the reader answers: the routine's header, or the refusal
abbrev pub Answer : Type 0
Answer = Result Header Refusal

-- a routine where the checks pass, else the refusal
abbrev pub answered : Verdict → Header → Answer
answered (Ok _) h = Ok h
answered (Err r) h = Err r

-- the header, or the first refusal
unfoldable pub read_of : List ℕ → Answer
unfolding read_check
read_of file = answered (read_check file) (header_of file)

-- a refusal of the reader's, handed on. `plan`, `run` and `rounds` ask for it only where the answer is a refusal; `Ok 0` is never an answer of
-- theirs, and stands here so that each case has a value
abbrev pub denied_of : Answer → Reply
denied_of (Ok h) = Ok 0
denied_of (Err r) = Err r

-- ---- how the code keeps it: what a routine has, and a file that passed

-- counts within their limits; the edges within those of a routine whose calls are expanded
pub record Limits (h : Header) : Type 0 where
  pub some_array : 1 ≤ h.arrays
  pub few_arrays : h.arrays ≤ 8
  pub two_vertices : 2 ≤ h.vertices
  pub few_vertices : h.vertices ≤ 256
  pub few_edges : h.edges ≤ max_edges

-- what checks 10 to 13 leave: counts within their limits, bodies that fill the file
pub record Laid (file : List ℕ) : Type 0 where
  pub limits : Limits (header_of file)
  pub ends : length file ≡ end_at file

-- a laid file: its bytes
pub record LaidBytes : Type 0 where
  pub bytes : List ℕ
  pub laid : Laid bytes

-- what 14 leaves of an array record
pub record ArrayLimits (r : ArrayRecord) : Type 0 where
  pub kind_known : r.kind ≤ 3
  pub some_version : 1 ≤ r.versions
  pub few_versions : r.versions ≤ width
  pub initial_below : r.initial < r.versions
  pub last_zero : r.zero ≡ 0

-- what 16 leaves of an edge among n vertices, but for its order
pub record EdgeLimits (e : Edge) (n : ℕ) : Type 0 where
  pub from_below : e.from < n
  pub to_below : e.to < n
  pub to_other : e.to ≡ 0 → ⊥
  pub from_other : e.from ≡ n - 1 → ⊥

-- what the label rules, the plan and the run ask of a routine
pub record WellFormed (file : List ℕ) : Type 0 where
  pub laid : Laid file
  pub array_limits : {a : ℕ} → a < arrays file → ArrayLimits (array_of file a)
  -- the rows of entry and exit are all 00
  pub entry_nothing : {a : ℕ} → a < arrays file → action file a entry ≡ Nothing
  pub exit_nothing : {a : ℕ} → a < arrays file → action file a (exit file) ≡ Nothing
  -- a vertex has references or remappings, never both
  pub never_both :
      {v a b : ℕ} {r : Access} {k : ℕ} → v < vertices file → a < arrays file → b < arrays file
      → action file a v ≡ Reference r → action file b v ≡ Remap k → ⊥
  pub edge_limits : {i : ℕ} → i < edges file → EdgeLimits (edge_of file i) (vertices file)
  -- strictly rising by from, then to
  pub edges_rise : (i : ℕ) → i + 1 < edges file → before (edge_of file i) (edge_of file (i + 1)) ≡ true

-- what checks 10 to 19 leave of a file; it is well formed (`well_formed`)
pub record ChecksPassed (file : List ℕ) : Type 0 where
  pub laid : Laid file
  pub arrays_pass : (a : ℕ) → a < arrays file → array_check file a ≡ Ok tt
  pub actions_pass : (a v : ℕ) → a < arrays file → v < vertices file → action_check file a v ≡ Ok tt
  pub edges_pass : (i : ℕ) → i < edges file → edge_check file i ≡ Ok tt

-- a laid file with its own header
pub record Heads (h : Header) (file : List ℕ) : Type 0 where
  pub laid : Laid file
  pub arrays_are : h.arrays ≡ arrays file
  pub vertices_are : h.vertices ≡ vertices file
  pub edges_are : h.edges ≡ edges file
