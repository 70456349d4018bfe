-- Document 01, "Routine P and others": the starred cases as one table, from the bytes of routine files and paths to what the definitions
-- answer; and cases of document 02. The theorem is `all_hold` of proofs/Cases.
-- Assumes nothing.
use Rattle.std.specs.Prelude.{◌≡◌, cond, List, [], ◌∷◌, ℕ, eqb, length, set, Ok}
use Rattle.std.proofs.Math.Option.{Option, none, some}
use Rattle.calls.specs.Expanded.{routine_of}
use Rattle.labels.specs.Events.{is_label, version}
use Rattle.labels.specs.Kept.{kept_of}
use Rattle.labels.specs.Reaching.{reaching_of}
use Rattle.labels.specs.Uses.{is_n, use_of}
use Rattle.labels.specs.declared.Use.{Use}
use Rattle.labels.specs.declared.Use.TheVariants.{N, D, R, W}
use Rattle.planned.specs.Calls.{plan_of, plan_outcome}
use Rattle.planbytes.specs.Plan.{plan_bytes}
use Rattle.routine.specs.Layout.{arrays, vertices}
use Rattle.refusal.specs.Refusals.{refused}
use Rattle.refusal.specs.declared.Outcome.{Outcome}
use Rattle.run.specs.Calls.{run_of, run_outcome}
use Rattle.demand.specs.Machine.{machine_after}
use Rattle.path.specs.Paths.{steps}
use Rattle.walk.specs.Report.{report_bytes}
use Rattle.demand.specs.Run.{state_after, run_records}
use Rattle.report.specs.Records.{kind_of}
use Rattle.report.specs.declared.record.Record.{Record}
use Rattle.words.specs.Tables.{table, rows}

-- ---- a line of the planner's listing

pub data Line : Type 0 where
  -- vertex, array, use, leave, reach, keep
  line : ℕ → ℕ → Use → Option ℕ → ℕ → ℕ → Line

-- the line of array a at vertex v, if it has a label there
abbrev pub line_at : List ℕ → ℕ → ℕ → List Line
line_at file a v =
    cond (is_label file a v)
    (line v a (use_of file a v) (cond (is_n (use_of file a v)) none (some (version file a v))) (reaching_of file a v) (kept_of file a v) ∷ [])
    []

-- by vertex, then array
abbrev pub lines_of : List ℕ → List Line
lines_of file = rows (λ v. rows (λ a. line_at file a v) (arrays file)) (vertices file)

-- ---- what a read sees

pub data Seen : Type 0 where
  -- stamp, version
  seen : ℕ → ℕ → Seen

-- the reads among the records
abbrev pub reads_of : List Record → List Seen
reads_of [] = []
reads_of (r ∷ rs) = cond (eqb (kind_of r.access) 1) (seen r.seen r.version ∷ reads_of rs) (reads_of rs)

-- ---- cases

-- a routine that is planned: the lines of its listing; and the plan whole, in rows of bytes: mark and counts; contents; labels
pub record Plans : Type 0 where
  pub file : List ℕ
  pub lines : List Line
  pub plan : List ℕ

-- a routine that is refused: number and two places
pub record Refuses : Type 0 where
  pub file : List ℕ
  pub outcome : Outcome

-- a run: the copies of each array, against those of copying at every remapping; what its reads see; and the report whole, in rows of
-- bytes: an array, then a reference in each, then the counts of the edges
pub record Runs : Type 0 where
  pub file : List ℕ
  pub path : List ℕ
  pub copies : List ℕ
  pub against : List ℕ
  pub reads : List Seen
  pub report : List ℕ

-- a case, by what it shows
pub data Case : Type 0 where
  plans : Plans → Case
  refuses : Refuses → Case
  runs : Runs → Case

-- what the definitions answer. A buffer as long as the plan or the report is enough; a routine is refused whatever the buffer and the path
abbrev pub CaseHolds : Case → Type 0
CaseHolds (plans c) =
    (plan_of c.file (length c.plan) ≡ Ok (length c.plan))
    × (lines_of (routine_of c.file) ≡ c.lines)
    × (plan_bytes (routine_of c.file) ≡ c.plan)
CaseHolds (refuses c) =
    ((size : ℕ) → plan_outcome c.file size ≡ c.outcome)
    × ((path : List ℕ) (size : ℕ) → run_outcome c.file path size ≡ c.outcome)
CaseHolds (runs c) =
    (run_of c.file c.path (length c.report) ≡ Ok (length c.report))
    × (table (λ a. (state_after (routine_of c.file) c.path a (steps c.path)).copies) (arrays c.file) ≡ c.copies)
    × (table (λ a. (machine_after (routine_of c.file) c.path a (steps c.path)).count) (arrays c.file) ≡ c.against)
    × (reads_of (run_records (routine_of c.file) c.path) ≡ c.reads)
    × (report_bytes (routine_of c.file) c.path ≡ c.report)

-- every case of a table holds
abbrev pub AllHold : List Case → Type 0
AllHold [] = Unit {0}
AllHold (c ∷ cs) = CaseHolds c × AllHold cs

-- ---- routine files, in rows of bytes: mark, edition and contents; array; actions; edges

-- P: one local array, 3 versions, initial 0; 1 define, 2 remap 1, 3 read, 4 remap 2, 5 remap 0, 6 read, 7 exit;
-- edges 0-1, 1-2, 2-3, 3-4, 4-5, 5-6, 6-2, 6-7
abbrev pub P : List ℕ
P =
    72 ∷ 80 ∷ 70 ∷ 82 ∷ 1 ∷ 0 ∷ 18 ∷ 0 ∷ 1 ∷ 0 ∷ 22 ∷ 0 ∷ 8 ∷ 0 ∷ 30 ∷ 0 ∷ 8 ∷ 0
    ∷ 0 ∷ 3 ∷ 0 ∷ 0
    ∷ 0x00 ∷ 0x20 ∷ 0x41 ∷ 0x10 ∷ 0x42 ∷ 0x40 ∷ 0x10 ∷ 0x00
    ∷ 0 ∷ 0 ∷ 1 ∷ 0 ∷ 1 ∷ 0 ∷ 2 ∷ 0 ∷ 2 ∷ 0 ∷ 3 ∷ 0 ∷ 3 ∷ 0 ∷ 4 ∷ 0
    ∷ 4 ∷ 0 ∷ 5 ∷ 0 ∷ 5 ∷ 0 ∷ 6 ∷ 0 ∷ 6 ∷ 0 ∷ 2 ∷ 0 ∷ 6 ∷ 0 ∷ 7 ∷ 0
    ∷ []

-- Q: inout, 2 versions, initial 0; 1 remap 1, 2 define, 3 remap 0, 4 read, 5 exit; edges 0-1, 1-2, 1-3, 2-3, 3-4, 4-5
abbrev pub Q : List ℕ
Q =
    72 ∷ 80 ∷ 70 ∷ 82 ∷ 1 ∷ 0 ∷ 18 ∷ 0 ∷ 1 ∷ 0 ∷ 22 ∷ 0 ∷ 6 ∷ 0 ∷ 28 ∷ 0 ∷ 6 ∷ 0
    ∷ 3 ∷ 2 ∷ 0 ∷ 0
    ∷ 0x00 ∷ 0x41 ∷ 0x20 ∷ 0x40 ∷ 0x10 ∷ 0x00
    ∷ 0 ∷ 0 ∷ 1 ∷ 0 ∷ 1 ∷ 0 ∷ 2 ∷ 0 ∷ 1 ∷ 0 ∷ 3 ∷ 0 ∷ 2 ∷ 0 ∷ 3 ∷ 0
    ∷ 3 ∷ 0 ∷ 4 ∷ 0 ∷ 4 ∷ 0 ∷ 5 ∷ 0
    ∷ []

-- S: local, 3 versions, initial 0, a chain: 1 define, 2 remap 1, 3 remap 2, 4 read, 5 exit
abbrev pub S : List ℕ
S =
    72 ∷ 80 ∷ 70 ∷ 82 ∷ 1 ∷ 0 ∷ 18 ∷ 0 ∷ 1 ∷ 0 ∷ 22 ∷ 0 ∷ 6 ∷ 0 ∷ 28 ∷ 0 ∷ 5 ∷ 0
    ∷ 0 ∷ 3 ∷ 0 ∷ 0
    ∷ 0x00 ∷ 0x20 ∷ 0x41 ∷ 0x42 ∷ 0x10 ∷ 0x00
    ∷ 0 ∷ 0 ∷ 1 ∷ 0 ∷ 1 ∷ 0 ∷ 2 ∷ 0 ∷ 2 ∷ 0 ∷ 3 ∷ 0 ∷ 3 ∷ 0 ∷ 4 ∷ 0
    ∷ 4 ∷ 0 ∷ 5 ∷ 0
    ∷ []

-- T: local, 2 versions, initial 0; 1 remap 1, 2 read, 3 exit; edges 0-1, 0-2, 1-2, 2-3
abbrev pub T : List ℕ
T =
    72 ∷ 80 ∷ 70 ∷ 82 ∷ 1 ∷ 0 ∷ 18 ∷ 0 ∷ 1 ∷ 0 ∷ 22 ∷ 0 ∷ 4 ∷ 0 ∷ 26 ∷ 0 ∷ 4 ∷ 0
    ∷ 0 ∷ 2 ∷ 0 ∷ 0
    ∷ 0x00 ∷ 0x41 ∷ 0x10 ∷ 0x00
    ∷ 0 ∷ 0 ∷ 1 ∷ 0 ∷ 0 ∷ 0 ∷ 2 ∷ 0 ∷ 1 ∷ 0 ∷ 2 ∷ 0 ∷ 2 ∷ 0 ∷ 3 ∷ 0
    ∷ []

-- T with nothing at 2
abbrev pub T_with_nothing : List ℕ
T_with_nothing =
    72 ∷ 80 ∷ 70 ∷ 82 ∷ 1 ∷ 0 ∷ 18 ∷ 0 ∷ 1 ∷ 0 ∷ 22 ∷ 0 ∷ 4 ∷ 0 ∷ 26 ∷ 0 ∷ 4 ∷ 0
    ∷ 0 ∷ 2 ∷ 0 ∷ 0
    ∷ 0x00 ∷ 0x41 ∷ 0x00 ∷ 0x00
    ∷ 0 ∷ 0 ∷ 1 ∷ 0 ∷ 0 ∷ 0 ∷ 2 ∷ 0 ∷ 1 ∷ 0 ∷ 2 ∷ 0 ∷ 2 ∷ 0 ∷ 3 ∷ 0
    ∷ []

-- U, not of document 01: local, 2 versions, initial 0, a chain: 1 define, 2 remap 1, 3 define, 4 read, 5 remap 0, 6 read, 7 exit
abbrev pub U : List ℕ
U =
    72 ∷ 80 ∷ 70 ∷ 82 ∷ 1 ∷ 0 ∷ 18 ∷ 0 ∷ 1 ∷ 0 ∷ 22 ∷ 0 ∷ 8 ∷ 0 ∷ 30 ∷ 0 ∷ 7 ∷ 0
    ∷ 0 ∷ 2 ∷ 0 ∷ 0
    ∷ 0x00 ∷ 0x20 ∷ 0x41 ∷ 0x20 ∷ 0x10 ∷ 0x40 ∷ 0x10 ∷ 0x00
    ∷ 0 ∷ 0 ∷ 1 ∷ 0 ∷ 1 ∷ 0 ∷ 2 ∷ 0 ∷ 2 ∷ 0 ∷ 3 ∷ 0 ∷ 3 ∷ 0 ∷ 4 ∷ 0
    ∷ 4 ∷ 0 ∷ 5 ∷ 0 ∷ 5 ∷ 0 ∷ 6 ∷ 0 ∷ 6 ∷ 0 ∷ 7 ∷ 0
    ∷ []

-- X, of document 02, request 1: in, 2 versions, initial 0, a chain: 1 remap 1, 2 read, 3 exit
abbrev pub X : List ℕ
X =
    72 ∷ 80 ∷ 70 ∷ 82 ∷ 1 ∷ 0 ∷ 18 ∷ 0 ∷ 1 ∷ 0 ∷ 22 ∷ 0 ∷ 4 ∷ 0 ∷ 26 ∷ 0 ∷ 3 ∷ 0
    ∷ 1 ∷ 2 ∷ 0 ∷ 0
    ∷ 0x00 ∷ 0x41 ∷ 0x10 ∷ 0x00
    ∷ 0 ∷ 0 ∷ 1 ∷ 0 ∷ 1 ∷ 0 ∷ 2 ∷ 0 ∷ 2 ∷ 0 ∷ 3 ∷ 0
    ∷ []

-- K, of document 02, request 3, a call in a loop: two arrays, 2 versions each, initial 0, the first inout, the second in; 1 a call that
-- passes the first in version 1 as inout and the second in version 1 as in, 2 read both, 3 exit; edges 0-1, 1-2, 2-1, 2-3.
-- Expanded: 1 remap 1 both, 2 modify and read, 3 remap 0 both, 4 read both, 5 exit; edges 0-1, 1-2, 2-3, 3-4, 4-1, 4-5
abbrev pub K : List ℕ
K =
    72 ∷ 80 ∷ 70 ∷ 82 ∷ 1 ∷ 0 ∷ 18 ∷ 0 ∷ 2 ∷ 0 ∷ 26 ∷ 0 ∷ 4 ∷ 0 ∷ 34 ∷ 0 ∷ 4 ∷ 0
    ∷ 3 ∷ 2 ∷ 0 ∷ 0 ∷ 1 ∷ 2 ∷ 0 ∷ 0
    ∷ 0x00 ∷ 0x00 ∷ 0xc1 ∷ 0x61 ∷ 0x10 ∷ 0x10 ∷ 0x00 ∷ 0x00
    ∷ 0 ∷ 0 ∷ 1 ∷ 0 ∷ 1 ∷ 0 ∷ 2 ∷ 0 ∷ 2 ∷ 0 ∷ 1 ∷ 0 ∷ 2 ∷ 0 ∷ 3 ∷ 0
    ∷ []

-- a call that no path reaches: local, 2 versions, initial 1; 1 a call that passes the array in version 0 as in, 2 read, 3 exit; edges 0-2,
-- 1-2, 2-3. Expanded: 1 remap 0, 2 read, 3 remap 1, 4 read, 5 exit; edges 0-4, 1-2, 2-3, 3-4, 4-5
abbrev pub unreached_call : List ℕ
unreached_call =
    72 ∷ 80 ∷ 70 ∷ 82 ∷ 1 ∷ 0 ∷ 18 ∷ 0 ∷ 1 ∷ 0 ∷ 22 ∷ 0 ∷ 4 ∷ 0 ∷ 26 ∷ 0 ∷ 3 ∷ 0
    ∷ 0 ∷ 2 ∷ 1 ∷ 0
    ∷ 0x00 ∷ 0x60 ∷ 0x10 ∷ 0x00
    ∷ 0 ∷ 0 ∷ 2 ∷ 0 ∷ 1 ∷ 0 ∷ 2 ∷ 0 ∷ 2 ∷ 0 ∷ 3 ∷ 0
    ∷ []

-- T with a call at 2 that passes the array in version 1 as in
abbrev pub T_with_call : List ℕ
T_with_call =
    72 ∷ 80 ∷ 70 ∷ 82 ∷ 1 ∷ 0 ∷ 18 ∷ 0 ∷ 1 ∷ 0 ∷ 22 ∷ 0 ∷ 4 ∷ 0 ∷ 26 ∷ 0 ∷ 4 ∷ 0
    ∷ 0 ∷ 2 ∷ 0 ∷ 0
    ∷ 0x00 ∷ 0x41 ∷ 0x61 ∷ 0x00
    ∷ 0 ∷ 0 ∷ 1 ∷ 0 ∷ 0 ∷ 0 ∷ 2 ∷ 0 ∷ 1 ∷ 0 ∷ 2 ∷ 0 ∷ 2 ∷ 0 ∷ 3 ∷ 0
    ∷ []

-- Z, of document 02, request 6: local, 2 versions, initial 0, a chain: 1 define, 2 remap 1, 3 kill, 4 read, 5 exit
abbrev pub Z : List ℕ
Z =
    72 ∷ 80 ∷ 70 ∷ 82 ∷ 1 ∷ 0 ∷ 18 ∷ 0 ∷ 1 ∷ 0 ∷ 22 ∷ 0 ∷ 6 ∷ 0 ∷ 28 ∷ 0 ∷ 5 ∷ 0
    ∷ 0 ∷ 2 ∷ 0 ∷ 0
    ∷ 0x00 ∷ 0x20 ∷ 0x41 ∷ 0x80 ∷ 0x10 ∷ 0x00
    ∷ 0 ∷ 0 ∷ 1 ∷ 0 ∷ 1 ∷ 0 ∷ 2 ∷ 0 ∷ 2 ∷ 0 ∷ 3 ∷ 0 ∷ 3 ∷ 0 ∷ 4 ∷ 0
    ∷ 4 ∷ 0 ∷ 5 ∷ 0
    ∷ []

-- Z of an in argument, with a read at 1
abbrev pub Z_of_in : List ℕ
Z_of_in = set (set Z 18 1) 23 0x10

-- Y, of document 02, request 7: local, 32 versions, initial 16, a chain: 1 define, 2 remap 17, 3 read, 4 remap 16, 5 read, 6 exit
abbrev pub Y : List ℕ
Y =
    72 ∷ 80 ∷ 70 ∷ 82 ∷ 1 ∷ 0 ∷ 18 ∷ 0 ∷ 1 ∷ 0 ∷ 22 ∷ 0 ∷ 7 ∷ 0 ∷ 29 ∷ 0 ∷ 6 ∷ 0
    ∷ 0 ∷ 32 ∷ 16 ∷ 0
    ∷ 0x00 ∷ 0x20 ∷ 0x51 ∷ 0x10 ∷ 0x50 ∷ 0x10 ∷ 0x00
    ∷ 0 ∷ 0 ∷ 1 ∷ 0 ∷ 1 ∷ 0 ∷ 2 ∷ 0 ∷ 2 ∷ 0 ∷ 3 ∷ 0 ∷ 3 ∷ 0 ∷ 4 ∷ 0
    ∷ 4 ∷ 0 ∷ 5 ∷ 0 ∷ 5 ∷ 0 ∷ 6 ∷ 0
    ∷ []

-- ---- paths: 16-bit vertices

-- 0 1 2 3 4 5 6 2 3
abbrev pub path2 : List ℕ
path2 = 0 ∷ 0 ∷ 1 ∷ 0 ∷ 2 ∷ 0 ∷ 3 ∷ 0 ∷ 4 ∷ 0 ∷ 5 ∷ 0 ∷ 6 ∷ 0 ∷ 2 ∷ 0 ∷ 3 ∷ 0 ∷ []

-- 0 1 3 4
abbrev pub path4 : List ℕ
path4 = 0 ∷ 0 ∷ 1 ∷ 0 ∷ 3 ∷ 0 ∷ 4 ∷ 0 ∷ []

-- 0 1 2 3 4, of cases 5 and 6 and of Z
abbrev pub path5 : List ℕ
path5 = 0 ∷ 0 ∷ 1 ∷ 0 ∷ 2 ∷ 0 ∷ 3 ∷ 0 ∷ 4 ∷ 0 ∷ []

-- 0 1 2 3 4 5 6
abbrev pub path_u : List ℕ
path_u = 0 ∷ 0 ∷ 1 ∷ 0 ∷ 2 ∷ 0 ∷ 3 ∷ 0 ∷ 4 ∷ 0 ∷ 5 ∷ 0 ∷ 6 ∷ 0 ∷ []

-- 0 1 2, and on to the exit; the second also of Y
abbrev pub path_x : List ℕ
path_x = 0 ∷ 0 ∷ 1 ∷ 0 ∷ 2 ∷ 0 ∷ []

abbrev pub full_x : List ℕ
full_x = 0 ∷ 0 ∷ 1 ∷ 0 ∷ 2 ∷ 0 ∷ 3 ∷ 0 ∷ []

-- 0 1 2 3 4 1 2 3 4 5, of the expanded routine
abbrev pub path_k : List ℕ
path_k = 0 ∷ 0 ∷ 1 ∷ 0 ∷ 2 ∷ 0 ∷ 3 ∷ 0 ∷ 4 ∷ 0 ∷ 1 ∷ 0 ∷ 2 ∷ 0 ∷ 3 ∷ 0 ∷ 4 ∷ 0 ∷ 5 ∷ 0 ∷ []

-- ---- the table

-- 1. ★ P's labels
abbrev pub case1 : Case
case1 =
    plans
    (record {
      file = P;
      lines =
          line 0 0 D (some 0) 0x0000 0x0001
          ∷ line 2 0 R (some 1) 0x0001 0x0003
          ∷ line 4 0 N none 0x0002 0x0003
          ∷ line 5 0 R (some 0) 0x0002 0x0003
          ∷ [];
      plan =
          72 ∷ 80 ∷ 70 ∷ 50 ∷ 8 ∷ 0 ∷ 4 ∷ 0
          ∷ 0 ∷ 0 ∷ 1 ∷ 0 ∷ 1 ∷ 0 ∷ 0 ∷ 0 ∷ 1 ∷ 0 ∷ 1 ∷ 0 ∷ 2 ∷ 0 ∷ 0 ∷ 0 ∷ 2 ∷ 0 ∷ 1 ∷ 0 ∷ 3 ∷ 0 ∷ 1 ∷ 0
          ∷ 4 ∷ 0 ∷ 0 ∷ 0 ∷ 4 ∷ 0 ∷ 0 ∷ 0
          ∷ 0 ∷ 68 ∷ 0 ∷ 0 ∷ 0 ∷ 0 ∷ 0 ∷ 0 ∷ 1 ∷ 0 ∷ 0 ∷ 0
          ∷ 0 ∷ 82 ∷ 1 ∷ 0 ∷ 1 ∷ 0 ∷ 0 ∷ 0 ∷ 3 ∷ 0 ∷ 0 ∷ 0
          ∷ 0 ∷ 78 ∷ 255 ∷ 0 ∷ 2 ∷ 0 ∷ 0 ∷ 0 ∷ 3 ∷ 0 ∷ 0 ∷ 0
          ∷ 0 ∷ 82 ∷ 0 ∷ 0 ∷ 2 ∷ 0 ∷ 0 ∷ 0 ∷ 3 ∷ 0 ∷ 0 ∷ 0
          ∷ [];
    })

-- 2. ★ P, path 0 1 2 3 4 5 6 2 3: one copy, against 4; reads see stamp 2 in versions 1, 0, 1
abbrev pub case2 : Case
case2 =
    runs
    (record {
      file = P;
      path = path2;
      copies = 1 ∷ [];
      against = 4 ∷ [];
      reads = seen 2 1 ∷ seen 2 0 ∷ seen 2 1 ∷ [];
      report =
          1 ∷ 0 ∷ 3 ∷ 0 ∷ 0 ∷ 0 ∷ 1 ∷ 0
          ∷ 2 ∷ 0 ∷ 0 ∷ 0 ∷ 2 ∷ 0 ∷ 0 ∷ 0 ∷ 2 ∷ 0
          ∷ 4 ∷ 0 ∷ 0 ∷ 1 ∷ 1 ∷ 0 ∷ 2 ∷ 0 ∷ 0 ∷ 0
          ∷ 7 ∷ 0 ∷ 0 ∷ 0 ∷ 1 ∷ 0 ∷ 2 ∷ 0 ∷ 0 ∷ 0
          ∷ 9 ∷ 0 ∷ 0 ∷ 1 ∷ 1 ∷ 0 ∷ 2 ∷ 0 ∷ 0 ∷ 0
          ∷ 1 ∷ 0 ∷ 1 ∷ 0 ∷ 2 ∷ 0 ∷ 1 ∷ 0 ∷ 1 ∷ 0 ∷ 1 ∷ 0 ∷ 1 ∷ 0 ∷ 0 ∷ 0
          ∷ [];
    })

-- 3. ★ Q: use at 1 is W
abbrev pub case3 : Case
case3 =
    plans
    (record {
      file = Q;
      lines =
          line 0 0 N none 0x0001 0x0002
          ∷ line 1 0 W (some 1) 0x0001 0x0002
          ∷ line 3 0 R (some 0) 0x0002 0x0001
          ∷ line 5 0 W (some 0) 0x0001 0x0001
          ∷ [];
      plan =
          72 ∷ 80 ∷ 70 ∷ 50 ∷ 6 ∷ 0 ∷ 4 ∷ 0
          ∷ 0 ∷ 0 ∷ 1 ∷ 0 ∷ 1 ∷ 0 ∷ 1 ∷ 0 ∷ 2 ∷ 0 ∷ 0 ∷ 0 ∷ 2 ∷ 0 ∷ 1 ∷ 0 ∷ 3 ∷ 0 ∷ 0 ∷ 0 ∷ 3 ∷ 0 ∷ 1 ∷ 0
          ∷ 0 ∷ 78 ∷ 255 ∷ 0 ∷ 1 ∷ 0 ∷ 0 ∷ 0 ∷ 2 ∷ 0 ∷ 0 ∷ 0
          ∷ 0 ∷ 87 ∷ 1 ∷ 0 ∷ 1 ∷ 0 ∷ 0 ∷ 0 ∷ 2 ∷ 0 ∷ 0 ∷ 0
          ∷ 0 ∷ 82 ∷ 0 ∷ 0 ∷ 2 ∷ 0 ∷ 0 ∷ 0 ∷ 1 ∷ 0 ∷ 0 ∷ 0
          ∷ 0 ∷ 87 ∷ 0 ∷ 0 ∷ 1 ∷ 0 ∷ 0 ∷ 0 ∷ 1 ∷ 0 ∷ 0 ∷ 0
          ∷ [];
    })

-- 4. ★ Q, path 0 1 3 4: read sees 65,535; two copies
abbrev pub case4 : Case
case4 =
    runs
    (record {
      file = Q;
      path = path4;
      copies = 2 ∷ [];
      against = 2 ∷ [];
      reads = seen 65535 0 ∷ [];
      report =
          2 ∷ 0 ∷ 1 ∷ 0 ∷ 0 ∷ 0 ∷ 0 ∷ 0
          ∷ 4 ∷ 0 ∷ 0 ∷ 0 ∷ 1 ∷ 0 ∷ 255 ∷ 255 ∷ 0 ∷ 0
          ∷ 1 ∷ 0 ∷ 0 ∷ 0 ∷ 1 ∷ 0 ∷ 0 ∷ 0 ∷ 1 ∷ 0 ∷ 0 ∷ 0
          ∷ [];
    })

-- 5. ★ Q, path 0 1 2 3 4: read sees 3
abbrev pub case5 : Case
case5 =
    runs
    (record {
      file = Q;
      path = path5;
      copies = 2 ∷ [];
      against = 2 ∷ [];
      reads = seen 3 0 ∷ [];
      report =
          2 ∷ 0 ∷ 1 ∷ 0 ∷ 0 ∷ 0 ∷ 0 ∷ 0
          ∷ 3 ∷ 0 ∷ 0 ∷ 1 ∷ 2 ∷ 0 ∷ 0 ∷ 0 ∷ 3 ∷ 0
          ∷ 5 ∷ 0 ∷ 0 ∷ 0 ∷ 1 ∷ 0 ∷ 3 ∷ 0 ∷ 0 ∷ 0
          ∷ 1 ∷ 0 ∷ 1 ∷ 0 ∷ 0 ∷ 0 ∷ 1 ∷ 0 ∷ 1 ∷ 0 ∷ 0 ∷ 0
          ∷ [];
    })

-- 6. ★ S, path 0 1 2 3 4: read sees 2 in version 2, one copy against 2; the lines `1 4 2`, `2 0 0 2 0 2` and `5 0 2 1 2 0`, then 1, 1, 1, 1 and 0
abbrev pub case6 : Case
case6 =
    runs
    (record {
      file = S;
      path = path5;
      copies = 1 ∷ [];
      against = 2 ∷ [];
      reads = seen 2 2 ∷ [];
      report =
          1 ∷ 0 ∷ 4 ∷ 0 ∷ 0 ∷ 0 ∷ 2 ∷ 0
          ∷ 2 ∷ 0 ∷ 0 ∷ 0 ∷ 2 ∷ 0 ∷ 0 ∷ 0 ∷ 2 ∷ 0
          ∷ 5 ∷ 0 ∷ 0 ∷ 2 ∷ 1 ∷ 0 ∷ 2 ∷ 0 ∷ 0 ∷ 0
          ∷ 1 ∷ 0 ∷ 1 ∷ 0 ∷ 1 ∷ 0 ∷ 1 ∷ 0 ∷ 0 ∷ 0
          ∷ [];
    })

-- 7. ★ T: refused 21, places 2 and 0
abbrev pub case7 : Case
case7 = refuses (record { file = T; outcome = refused 21 2 0 })

-- 8. ★ T with nothing at 2: accepted
abbrev pub case8 : Case
case8 =
    plans
    (record {
      file = T_with_nothing;
      lines =
          line 0 0 N none 0x0000 0x0000
          ∷ line 1 0 N none 0x0000 0x0000
          ∷ [];
      plan =
          72 ∷ 80 ∷ 70 ∷ 50 ∷ 4 ∷ 0 ∷ 2 ∷ 0
          ∷ 0 ∷ 0 ∷ 1 ∷ 0 ∷ 1 ∷ 0 ∷ 1 ∷ 0 ∷ 2 ∷ 0 ∷ 0 ∷ 0 ∷ 2 ∷ 0 ∷ 0 ∷ 0
          ∷ 0 ∷ 78 ∷ 255 ∷ 0 ∷ 0 ∷ 0 ∷ 0 ∷ 0 ∷ 0 ∷ 0 ∷ 0 ∷ 0
          ∷ 0 ∷ 78 ∷ 255 ∷ 0 ∷ 0 ∷ 0 ∷ 0 ∷ 0 ∷ 0 ∷ 0 ∷ 0 ∷ 0
          ∷ [];
    })

-- not starred: S's labels
abbrev pub case_s : Case
case_s =
    plans
    (record {
      file = S;
      lines =
          line 0 0 D (some 0) 0x0000 0x0001
          ∷ line 2 0 N none 0x0001 0x0004
          ∷ line 3 0 R (some 2) 0x0001 0x0004
          ∷ [];
      plan =
          72 ∷ 80 ∷ 70 ∷ 50 ∷ 6 ∷ 0 ∷ 3 ∷ 0
          ∷ 0 ∷ 0 ∷ 1 ∷ 0 ∷ 1 ∷ 0 ∷ 0 ∷ 0 ∷ 1 ∷ 0 ∷ 1 ∷ 0 ∷ 2 ∷ 0 ∷ 1 ∷ 0 ∷ 3 ∷ 0 ∷ 0 ∷ 0 ∷ 3 ∷ 0 ∷ 0 ∷ 0
          ∷ 0 ∷ 68 ∷ 0 ∷ 0 ∷ 0 ∷ 0 ∷ 0 ∷ 0 ∷ 1 ∷ 0 ∷ 0 ∷ 0
          ∷ 0 ∷ 78 ∷ 255 ∷ 0 ∷ 1 ∷ 0 ∷ 0 ∷ 0 ∷ 4 ∷ 0 ∷ 0 ∷ 0
          ∷ 0 ∷ 82 ∷ 2 ∷ 0 ∷ 1 ∷ 0 ∷ 0 ∷ 0 ∷ 4 ∷ 0 ∷ 0 ∷ 0
          ∷ [];
    })

-- not starred: U's labels, among them `2 0 D 1 00000001 00000002`
abbrev pub case_u : Case
case_u =
    plans
    (record {
      file = U;
      lines =
          line 0 0 D (some 0) 0x0000 0x0001
          ∷ line 2 0 D (some 1) 0x0001 0x0002
          ∷ line 5 0 R (some 0) 0x0002 0x0001
          ∷ [];
      plan =
          72 ∷ 80 ∷ 70 ∷ 50 ∷ 8 ∷ 0 ∷ 3 ∷ 0
          ∷ 0 ∷ 0 ∷ 1 ∷ 0 ∷ 1 ∷ 0 ∷ 0 ∷ 0 ∷ 1 ∷ 0 ∷ 1 ∷ 0 ∷ 2 ∷ 0 ∷ 0 ∷ 0 ∷ 2 ∷ 0 ∷ 0 ∷ 0 ∷ 2 ∷ 0 ∷ 1 ∷ 0
          ∷ 3 ∷ 0 ∷ 0 ∷ 0 ∷ 3 ∷ 0 ∷ 0 ∷ 0
          ∷ 0 ∷ 68 ∷ 0 ∷ 0 ∷ 0 ∷ 0 ∷ 0 ∷ 0 ∷ 1 ∷ 0 ∷ 0 ∷ 0
          ∷ 0 ∷ 68 ∷ 1 ∷ 0 ∷ 1 ∷ 0 ∷ 0 ∷ 0 ∷ 2 ∷ 0 ∷ 0 ∷ 0
          ∷ 0 ∷ 82 ∷ 0 ∷ 0 ∷ 2 ∷ 0 ∷ 0 ∷ 0 ∷ 1 ∷ 0 ∷ 0 ∷ 0
          ∷ [];
    })

-- not starred: U, path 0 1 2 3 4 5 6: the last read sees 4
abbrev pub run_u : Case
run_u =
    runs
    (record {
      file = U;
      path = path_u;
      copies = 1 ∷ [];
      against = 2 ∷ [];
      reads = seen 4 1 ∷ seen 4 0 ∷ [];
      report =
          1 ∷ 0 ∷ 1 ∷ 0 ∷ 0 ∷ 0 ∷ 0 ∷ 0
          ∷ 2 ∷ 0 ∷ 0 ∷ 0 ∷ 2 ∷ 0 ∷ 0 ∷ 0 ∷ 2 ∷ 0
          ∷ 4 ∷ 0 ∷ 0 ∷ 1 ∷ 2 ∷ 0 ∷ 0 ∷ 0 ∷ 4 ∷ 0
          ∷ 5 ∷ 0 ∷ 0 ∷ 1 ∷ 1 ∷ 0 ∷ 4 ∷ 0 ∷ 0 ∷ 0
          ∷ 7 ∷ 0 ∷ 0 ∷ 0 ∷ 1 ∷ 0 ∷ 4 ∷ 0 ∷ 0 ∷ 0
          ∷ 1 ∷ 0 ∷ 1 ∷ 0 ∷ 1 ∷ 0 ∷ 1 ∷ 0 ∷ 1 ∷ 0 ∷ 1 ∷ 0 ∷ 0 ∷ 0
          ∷ [];
    })

-- request 1: X's labels: none at the exit, and no kept set has the caller's version for it
abbrev pub case_x : Case
case_x =
    plans
    (record {
      file = X;
      lines =
          line 0 0 N none 0x0001 0x0002
          ∷ line 1 0 R (some 1) 0x0001 0x0002
          ∷ [];
      plan =
          72 ∷ 80 ∷ 70 ∷ 50 ∷ 4 ∷ 0 ∷ 2 ∷ 0
          ∷ 0 ∷ 0 ∷ 1 ∷ 0 ∷ 1 ∷ 0 ∷ 1 ∷ 0 ∷ 2 ∷ 0 ∷ 0 ∷ 0 ∷ 2 ∷ 0 ∷ 0 ∷ 0
          ∷ 0 ∷ 78 ∷ 255 ∷ 0 ∷ 1 ∷ 0 ∷ 0 ∷ 0 ∷ 2 ∷ 0 ∷ 0 ∷ 0
          ∷ 0 ∷ 82 ∷ 1 ∷ 0 ∷ 1 ∷ 0 ∷ 0 ∷ 0 ∷ 2 ∷ 0 ∷ 0 ∷ 0
          ∷ [];
    })

-- request 1: X, path 0 1 2: the caller's copy is dead, `1 2 1`
abbrev pub run_x : Case
run_x =
    runs
    (record {
      file = X;
      path = path_x;
      copies = 1 ∷ [];
      against = 1 ∷ [];
      reads = seen 65535 1 ∷ [];
      report =
          1 ∷ 0 ∷ 2 ∷ 0 ∷ 0 ∷ 0 ∷ 1 ∷ 0
          ∷ 3 ∷ 0 ∷ 0 ∷ 1 ∷ 1 ∷ 0 ∷ 255 ∷ 255 ∷ 0 ∷ 0
          ∷ 1 ∷ 0 ∷ 1 ∷ 0 ∷ 0 ∷ 0
          ∷ [];
    })

-- request 1: X, path 0 1 2 3: the caller's copy alone is live, and current, and no copy more is counted, `1 1 0`
abbrev pub full_run_x : Case
full_run_x =
    runs
    (record {
      file = X;
      path = full_x;
      copies = 1 ∷ [];
      against = 1 ∷ [];
      reads = seen 65535 1 ∷ [];
      report =
          1 ∷ 0 ∷ 1 ∷ 0 ∷ 0 ∷ 0 ∷ 0 ∷ 0
          ∷ 3 ∷ 0 ∷ 0 ∷ 1 ∷ 1 ∷ 0 ∷ 255 ∷ 255 ∷ 0 ∷ 0
          ∷ 1 ∷ 0 ∷ 1 ∷ 0 ∷ 1 ∷ 0
          ∷ [];
    })

-- request 3: K's labels: three vertices for the call, and the array goes back to version 0
abbrev pub case_k : Case
case_k =
    plans
    (record {
      file = K;
      lines =
          line 0 0 N none 0x0001 0x0002
          ∷ line 0 1 N none 0x0001 0x0003
          ∷ line 1 0 W (some 1) 0x0001 0x0002
          ∷ line 1 1 R (some 1) 0x0001 0x0003
          ∷ line 3 0 R (some 0) 0x0002 0x0003
          ∷ line 3 1 R (some 0) 0x0002 0x0003
          ∷ line 5 0 W (some 0) 0x0001 0x0001
          ∷ [];
      plan =
          72 ∷ 80 ∷ 70 ∷ 50 ∷ 6 ∷ 0 ∷ 7 ∷ 0
          ∷ 0 ∷ 0 ∷ 2 ∷ 0 ∷ 2 ∷ 0 ∷ 2 ∷ 0 ∷ 4 ∷ 0 ∷ 0 ∷ 0 ∷ 4 ∷ 0 ∷ 2 ∷ 0
          ∷ 6 ∷ 0 ∷ 0 ∷ 0 ∷ 6 ∷ 0 ∷ 1 ∷ 0
          ∷ 0 ∷ 78 ∷ 255 ∷ 0 ∷ 1 ∷ 0 ∷ 0 ∷ 0 ∷ 2 ∷ 0 ∷ 0 ∷ 0
          ∷ 1 ∷ 78 ∷ 255 ∷ 0 ∷ 1 ∷ 0 ∷ 0 ∷ 0 ∷ 3 ∷ 0 ∷ 0 ∷ 0
          ∷ 0 ∷ 87 ∷ 1 ∷ 0 ∷ 1 ∷ 0 ∷ 0 ∷ 0 ∷ 2 ∷ 0 ∷ 0 ∷ 0
          ∷ 1 ∷ 82 ∷ 1 ∷ 0 ∷ 1 ∷ 0 ∷ 0 ∷ 0 ∷ 3 ∷ 0 ∷ 0 ∷ 0
          ∷ 0 ∷ 82 ∷ 0 ∷ 0 ∷ 2 ∷ 0 ∷ 0 ∷ 0 ∷ 3 ∷ 0 ∷ 0 ∷ 0
          ∷ 1 ∷ 82 ∷ 0 ∷ 0 ∷ 2 ∷ 0 ∷ 0 ∷ 0 ∷ 3 ∷ 0 ∷ 0 ∷ 0
          ∷ 0 ∷ 87 ∷ 0 ∷ 0 ∷ 1 ∷ 0 ∷ 0 ∷ 0 ∷ 1 ∷ 0 ∷ 0 ∷ 0
          ∷ [];
    })

-- request 3: K, path 0 1 2 3 4 1 2 3 4 5: three copies and one, against four each; reads after the call see what it left; request 8: counts
-- of the expanded routine's edges
abbrev pub run_k : Case
run_k =
    runs
    (record {
      file = K;
      path = path_k;
      copies = 3 ∷ 1 ∷ [];
      against = 4 ∷ 4 ∷ [];
      reads = seen 65535 1 ∷ seen 3 0 ∷ seen 65535 0 ∷ seen 65535 1 ∷ seen 7 0 ∷ seen 65535 0 ∷ [];
      report =
          3 ∷ 0 ∷ 1 ∷ 0 ∷ 0 ∷ 0 ∷ 0 ∷ 0
          ∷ 1 ∷ 0 ∷ 1 ∷ 0 ∷ 0 ∷ 0 ∷ 0 ∷ 0
          ∷ 3 ∷ 0 ∷ 0 ∷ 1 ∷ 3 ∷ 0 ∷ 255 ∷ 255 ∷ 3 ∷ 0
          ∷ 3 ∷ 0 ∷ 1 ∷ 1 ∷ 1 ∷ 0 ∷ 255 ∷ 255 ∷ 0 ∷ 0
          ∷ 5 ∷ 0 ∷ 0 ∷ 0 ∷ 1 ∷ 0 ∷ 3 ∷ 0 ∷ 0 ∷ 0
          ∷ 5 ∷ 0 ∷ 1 ∷ 0 ∷ 1 ∷ 0 ∷ 255 ∷ 255 ∷ 0 ∷ 0
          ∷ 7 ∷ 0 ∷ 0 ∷ 1 ∷ 3 ∷ 0 ∷ 3 ∷ 0 ∷ 7 ∷ 0
          ∷ 7 ∷ 0 ∷ 1 ∷ 1 ∷ 1 ∷ 0 ∷ 255 ∷ 255 ∷ 0 ∷ 0
          ∷ 9 ∷ 0 ∷ 0 ∷ 0 ∷ 1 ∷ 0 ∷ 7 ∷ 0 ∷ 0 ∷ 0
          ∷ 9 ∷ 0 ∷ 1 ∷ 0 ∷ 1 ∷ 0 ∷ 255 ∷ 255 ∷ 0 ∷ 0
          ∷ 1 ∷ 0 ∷ 2 ∷ 0 ∷ 2 ∷ 0 ∷ 2 ∷ 0 ∷ 1 ∷ 0 ∷ 1 ∷ 0
          ∷ [];
    })

-- request 3: a call that no path reaches: back to the initial version, `3 0 R 1 00000000 00000002`
abbrev pub case_unreached : Case
case_unreached =
    plans
    (record {
      file = unreached_call;
      lines =
          line 0 0 R (some 1) 0x0000 0x0002
          ∷ line 1 0 R (some 0) 0x0000 0x0003
          ∷ line 3 0 R (some 1) 0x0000 0x0002
          ∷ [];
      plan =
          72 ∷ 80 ∷ 70 ∷ 50 ∷ 6 ∷ 0 ∷ 3 ∷ 0
          ∷ 0 ∷ 0 ∷ 1 ∷ 0 ∷ 1 ∷ 0 ∷ 1 ∷ 0 ∷ 2 ∷ 0 ∷ 0 ∷ 0 ∷ 2 ∷ 0 ∷ 1 ∷ 0
          ∷ 3 ∷ 0 ∷ 0 ∷ 0 ∷ 3 ∷ 0 ∷ 0 ∷ 0
          ∷ 0 ∷ 82 ∷ 1 ∷ 0 ∷ 0 ∷ 0 ∷ 0 ∷ 0 ∷ 2 ∷ 0 ∷ 0 ∷ 0
          ∷ 0 ∷ 82 ∷ 0 ∷ 0 ∷ 0 ∷ 0 ∷ 0 ∷ 0 ∷ 3 ∷ 0 ∷ 0 ∷ 0
          ∷ 0 ∷ 82 ∷ 1 ∷ 0 ∷ 0 ∷ 0 ∷ 0 ∷ 0 ∷ 2 ∷ 0 ∷ 0 ∷ 0
          ∷ [];
    })

-- request 3: T with a call at 2: two versions may come, refused 21 at the file's vertex
abbrev pub case_t_call : Case
case_t_call = refuses (record { file = T_with_call; outcome = refused 21 2 0 })

-- request 6: Z's labels: the kill needs no value, `2 0 D 1 00000001 00000002`
abbrev pub case_z : Case
case_z =
    plans
    (record {
      file = Z;
      lines =
          line 0 0 D (some 0) 0x00000000 0x00000001
          ∷ line 2 0 D (some 1) 0x00000001 0x00000002
          ∷ [];
      plan =
          72 ∷ 80 ∷ 70 ∷ 50 ∷ 6 ∷ 0 ∷ 2 ∷ 0
          ∷ 0 ∷ 0 ∷ 1 ∷ 0 ∷ 1 ∷ 0 ∷ 0 ∷ 0 ∷ 1 ∷ 0 ∷ 1 ∷ 0 ∷ 2 ∷ 0 ∷ 0 ∷ 0
          ∷ 2 ∷ 0 ∷ 0 ∷ 0 ∷ 2 ∷ 0 ∷ 0 ∷ 0
          ∷ 0 ∷ 68 ∷ 0 ∷ 0 ∷ 0 ∷ 0 ∷ 0 ∷ 0 ∷ 1 ∷ 0 ∷ 0 ∷ 0
          ∷ 0 ∷ 68 ∷ 1 ∷ 0 ∷ 1 ∷ 0 ∷ 0 ∷ 0 ∷ 2 ∷ 0 ∷ 0 ∷ 0
          ∷ [];
    })

-- request 6: Z, path 0 1 2 3 4: no copy, against 1; after the kill the read sees 0
abbrev pub run_z : Case
run_z =
    runs
    (record {
      file = Z;
      path = path5;
      copies = 0 ∷ [];
      against = 1 ∷ [];
      reads = seen 0 1 ∷ [];
      report =
          0 ∷ 0 ∷ 2 ∷ 0 ∷ 0 ∷ 0 ∷ 1 ∷ 0
          ∷ 2 ∷ 0 ∷ 0 ∷ 0 ∷ 2 ∷ 0 ∷ 0 ∷ 0 ∷ 2 ∷ 0
          ∷ 4 ∷ 0 ∷ 0 ∷ 1 ∷ 4 ∷ 0 ∷ 0 ∷ 0 ∷ 0 ∷ 0
          ∷ 5 ∷ 0 ∷ 0 ∷ 1 ∷ 1 ∷ 0 ∷ 0 ∷ 0 ∷ 0 ∷ 0
          ∷ 1 ∷ 0 ∷ 1 ∷ 0 ∷ 1 ∷ 0 ∷ 1 ∷ 0 ∷ 0 ∷ 0
          ∷ [];
    })

-- request 6: a kill of an in argument: refused 20
abbrev pub case_z_in : Case
case_z_in = refuses (record { file = Z_of_in; outcome = refused 20 3 0 })

-- request 7: Y's labels: sets of versions above 15, `2 0 R 17 00010000 00030000`
abbrev pub case_y : Case
case_y =
    plans
    (record {
      file = Y;
      lines =
          line 0 0 D (some 16) 0x00000000 0x00010000
          ∷ line 2 0 R (some 17) 0x00010000 0x00030000
          ∷ line 4 0 R (some 16) 0x00020000 0x00010000
          ∷ [];
      plan =
          72 ∷ 80 ∷ 70 ∷ 50 ∷ 7 ∷ 0 ∷ 3 ∷ 0
          ∷ 0 ∷ 0 ∷ 1 ∷ 0 ∷ 1 ∷ 0 ∷ 0 ∷ 0 ∷ 1 ∷ 0 ∷ 1 ∷ 0 ∷ 2 ∷ 0 ∷ 0 ∷ 0
          ∷ 2 ∷ 0 ∷ 1 ∷ 0 ∷ 3 ∷ 0 ∷ 0 ∷ 0 ∷ 3 ∷ 0 ∷ 0 ∷ 0
          ∷ 0 ∷ 68 ∷ 16 ∷ 0 ∷ 0 ∷ 0 ∷ 0 ∷ 0 ∷ 0 ∷ 0 ∷ 1 ∷ 0
          ∷ 0 ∷ 82 ∷ 17 ∷ 0 ∷ 0 ∷ 0 ∷ 1 ∷ 0 ∷ 0 ∷ 0 ∷ 3 ∷ 0
          ∷ 0 ∷ 82 ∷ 16 ∷ 0 ∷ 0 ∷ 0 ∷ 2 ∷ 0 ∷ 0 ∷ 0 ∷ 1 ∷ 0
          ∷ [];
    })

-- request 7: Y, path 0 1 2 3: versions 16 and 17 are live, `1 196608 17`
abbrev pub run_y : Case
run_y =
    runs
    (record {
      file = Y;
      path = full_x;
      copies = 1 ∷ [];
      against = 1 ∷ [];
      reads = seen 2 17 ∷ [];
      report =
          1 ∷ 0 ∷ 0 ∷ 0 ∷ 3 ∷ 0 ∷ 17 ∷ 0
          ∷ 2 ∷ 0 ∷ 0 ∷ 16 ∷ 2 ∷ 0 ∷ 0 ∷ 0 ∷ 2 ∷ 0
          ∷ 4 ∷ 0 ∷ 0 ∷ 17 ∷ 1 ∷ 0 ∷ 2 ∷ 0 ∷ 0 ∷ 0
          ∷ 1 ∷ 0 ∷ 1 ∷ 0 ∷ 1 ∷ 0 ∷ 0 ∷ 0 ∷ 0 ∷ 0 ∷ 0 ∷ 0
          ∷ [];
    })

-- cases 1 to 8 as starred; labels of S and U, and U's run; requests 1, 3, 6 and 7
abbrev pub cases : List Case
cases =
    case1 ∷ case2 ∷ case3 ∷ case4 ∷ case5 ∷ case6 ∷ case7 ∷ case8 ∷ case_s ∷ case_u ∷ run_u ∷ case_x ∷ run_x ∷ full_run_x
    ∷ case_k ∷ run_k ∷ case_unreached ∷ case_t_call ∷ case_z ∷ run_z ∷ case_z_in ∷ case_y ∷ run_y ∷ []
