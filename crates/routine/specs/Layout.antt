-- Document 01, "Routine file": the table of contents, and where each body stands.
-- Assumes nothing.
use Rattle.std.specs.Prelude.{Bool, ◌&&◌, List, ℕ, ◌+◌, ◌-◌, ◌*◌, eqb, leb, length, get_or}
use Rattle.words.specs.Words.{word}
use Rattle.routine.specs.declared.header.Header.{Header}
use Rattle.refusal.specs.declared.Refusal.TheVariants.{TooShort, WrongMark, WrongEdition, CountOutsideLimits, WrongOffset, WrongLength}
use Rattle.refusal.specs.Checks.{Verdict, ◌and_then◌, holds}

-- ---- contents at byte 6: offset and count, 16 bits each, of arrays, vertices, edges

-- how many arrays
abbrev pub arrays : List ℕ → ℕ
arrays file = word file 8

-- how many vertices
abbrev pub vertices : List ℕ → ℕ
vertices file = word file 12

-- how many edges
abbrev pub edges : List ℕ → ℕ
edges file = word file 16

-- the three counts
abbrev pub header_of : List ℕ → Header
header_of file = record { arrays = arrays file; vertices = vertices file; edges = edges file }

-- vertex 0 is the entry, the last is the exit
abbrev pub entry : ℕ
entry = 0

-- the last is the exit
abbrev pub exit : List ℕ → ℕ
exit file = vertices file - 1

-- ---- bodies from byte 18 in that order without gaps: four bytes an array, a byte for each vertex and array, four bytes an edge

-- the record of array a
abbrev pub record_at : ℕ → ℕ
record_at a = 18 + 4 * a

-- the first action byte
abbrev pub actions_at : List ℕ → ℕ
actions_at file = 18 + 4 * arrays file

-- the action byte of array a at vertex v
abbrev pub action_at : List ℕ → ℕ → ℕ → ℕ
action_at file a v = actions_at file + v * arrays file + a

-- the first edge
abbrev pub edges_at : List ℕ → ℕ
edges_at file = actions_at file + vertices file * arrays file

-- edge i
abbrev pub edge_at : List ℕ → ℕ → ℕ
edge_at file i = edges_at file + 4 * i

-- the end of the file
abbrev pub end_at : List ℕ → ℕ
end_at file = edges_at file + 4 * edges file

-- ---- checks 10 to 13

-- the four bytes `HPFR`
abbrev pub marked : List ℕ → Bool
marked file = eqb (get_or file 0 0) 72 && (eqb (get_or file 1 0) 80 && (eqb (get_or file 2 0) 70 && eqb (get_or file 3 0) 82))

-- 10: under 18 bytes, else wrong mark
unfoldable pub check10 : List ℕ → Verdict
check10 file = holds (leb 18 (length file)) (TooShort (length file)) and_then holds (marked file) WrongMark

-- 11: edition
unfoldable pub check11 : List ℕ → Verdict
check11 file = holds (eqb (word file 4) 1) WrongEdition

-- within its limits
abbrev pub within : ℕ → ℕ → ℕ → Bool
within low high n = leb low n && leb n high

-- arrays 1 to 8, vertices 2 to 256, edges 0 to 1,024
abbrev pub counts_check : Header → Verdict
counts_check h =
    holds (within 1 8 h.arrays) (CountOutsideLimits 8)
    and_then holds (within 2 256 h.vertices) (CountOutsideLimits 12)
    and_then holds (within 0 1024 h.edges) (CountOutsideLimits 16)

-- 12: count outside its limits
unfoldable pub check12 : List ℕ → Verdict
check12 file = counts_check (header_of file)

-- 13: offset wrong, or length wrong
unfoldable pub check13 : List ℕ → Verdict
check13 file =
    holds (eqb (word file 6) 18) (WrongOffset 6)
    and_then holds (eqb (word file 10) (actions_at file)) (WrongOffset 10)
    and_then holds (eqb (word file 14) (edges_at file)) (WrongOffset 14)
    and_then holds (eqb (length file) (end_at file)) WrongLength
