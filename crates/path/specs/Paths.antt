-- Document 01, "Who can cause a refusal", the path's writer: a path is 16-bit vertices; an odd last byte is ignored.
-- Assumes nothing.
use Rattle.std.specs.Prelude.{Bool, ◌&&◌, List, ℕ, ◌-◌, ◌*◌, ◌/◌, eqb, length}
use Rattle.refusal.specs.Checks.{◌and_then◌, holds, first_failed, Verdict}
use Rattle.routine.specs.Edges.{edge_of}
use Rattle.routine.specs.Layout.{edges, within, entry}
use Rattle.refusal.specs.declared.Refusal.TheVariants.{PathLengthOutsideLimits, WrongStart, NoSuchEdge}
use Rattle.words.specs.Sums.{any_below}
use Rattle.words.specs.Words.{word}

-- how many vertices the path has
abbrev pub steps : List ℕ → ℕ
steps path = length path / 2

-- the vertex at index i
abbrev pub vertex_at : List ℕ → ℕ → ℕ
vertex_at path i = word path (2 * i)

-- edge n joins v to w
abbrev pub joins : List ℕ → ℕ → ℕ → ℕ → Bool
joins file v w n = eqb (edge_of file n).from v && eqb (edge_of file n).to w

-- an edge of the routine joins v to w
unfoldable pub is_edge : List ℕ → ℕ → ℕ → Bool
unfolding any_below
is_edge file v w = any_below (joins file v w) (edges file)

-- 30: length 0 or above 4,096
abbrev pub check30 : List ℕ → Verdict
check30 path = holds (within 1 4096 (steps path)) (PathLengthOutsideLimits (steps path))

-- 31: first vertex not the entry
abbrev pub check31 : List ℕ → Verdict
check31 path = holds (eqb (vertex_at path 0) entry) WrongStart

-- an edge joins the vertex before index i to the one there
unfoldable pub arrival_check : List ℕ → List ℕ → ℕ → Verdict
unfolding is_edge
arrival_check file path i = holds (is_edge file (vertex_at path (i - 1)) (vertex_at path i)) (NoSuchEdge i)

-- 32: no such edge, at the index of the vertex arrived at
unfoldable pub check32 : List ℕ → List ℕ → Verdict
unfolding first_failed arrival_check
check32 file path = first_failed (arrival_check file path) 1 (steps path - 1)

-- 30 to 32
unfoldable pub path_check : List ℕ → List ℕ → Verdict
unfolding check32
path_check file path = check30 path and_then check31 path and_then check32 file path
