-- The lines of the programs (document 01, "Routine P and others").
-- Assumes nothing.
use Rattle.std.specs.Prelude.{List, [], ◌∷◌, ◌++◌, ℕ, ◌+◌, ◌-◌, ◌*◌, ◌/◌, codes, get_or}
use Rattle.refusal.specs.Replies.{reply_outcome, Reply}
use Rattle.text.specs.Text.{line}
use Rattle.text.specs.declared.Column.TheVariants.{Number, Character, Version, Mask}
use Rattle.words.specs.Tables.{rows}
use Rattle.words.specs.Words.{word, long_word}

-- a label whose twelve bytes stand at `at`: vertex, array, letter, leaving version, reaching set, kept set
abbrev pub label_line : List ℕ → ℕ → ℕ → List ℕ
label_line plan vertex at =
    line (
    Number vertex
    ∷ Number (get_or plan at 0)
    ∷ Character (get_or plan (at + 1) 0)
    ∷ Version (get_or plan (at + 2) 0)
    ∷ Mask (long_word plan (at + 4))
    ∷ Mask (long_word plan (at + 8))
    ∷ []
    )

-- an array's entry, eight bytes at `at`: copies, live set, current version
abbrev pub entry_line : List ℕ → ℕ → List ℕ
entry_line report at =
    line (Number (word report at) ∷ Number (long_word report (at + 2)) ∷ Number (get_or report (at + 6) 0) ∷ [])

-- a record, ten bytes at `at`: step, array, version, kind, stamp seen, new stamp
abbrev pub record_line : List ℕ → ℕ → List ℕ
record_line report at =
    line (
    Number (word report at)
    ∷ Number (get_or report (at + 2) 0)
    ∷ Number (get_or report (at + 3) 0)
    ∷ Number (get_or report (at + 4) 0)
    ∷ Number (word report (at + 6))
    ∷ Number (word report (at + 8))
    ∷ []
    )

-- the count of an edge, two bytes at `at` (document 02, request 8)
abbrev pub count_line : List ℕ → ℕ → List ℕ
count_line report at = line (Number (word report at) ∷ [])

-- a call's answer: number and places
abbrev pub outcome_line : Reply → List ℕ
outcome_line reply =
    let outcome = reply_outcome reply in
    line (Number outcome.number ∷ Number outcome.first ∷ Number outcome.second ∷ [])

-- ---- lines one after the other: a plan's

-- `count` labels of a vertex from `at` on
abbrev pub vertex_lines : List ℕ → ℕ → ℕ → ℕ → List ℕ
vertex_lines plan vertex at count = rows (λ i. label_line plan vertex (at + 12 * i)) count

-- those of vertex v, by its entry in the table of contents, behind which all labels stand
abbrev pub lines_of : List ℕ → ℕ → List ℕ
lines_of plan v =
    vertex_lines plan v (8 + 4 * word plan 4 + 12 * word plan (8 + 4 * v)) (word plan (8 + 4 * v + 2))

-- those of the first n vertices
abbrev pub lines_before : List ℕ → ℕ → List ℕ
lines_before plan n = rows (lines_of plan) n

-- those of all vertices
abbrev pub label_lines : List ℕ → List ℕ
label_lines plan = lines_before plan (word plan 4)

-- the names of the columns, then the labels
abbrev pub plan_lines : List ℕ → List ℕ
plan_lines plan = codes "vertex array use leave reach keep" ++ (10 ∷ label_lines plan)

-- ---- a report's

-- the entries of the arrays
abbrev pub entry_lines : List ℕ → ℕ → List ℕ
entry_lines report arrays = rows (λ a. entry_line report (8 * a)) arrays

-- n records from `from` on
abbrev pub records_from : List ℕ → ℕ → ℕ → List ℕ
records_from report from n = rows (λ i. record_line report (from + 10 * i)) n

-- those that start before `end`
abbrev pub record_lines : List ℕ → ℕ → ℕ → List ℕ
record_lines report from end = records_from report from ((end - from + 9) / 10)

-- n counts from `from` on
abbrev pub counts_from : List ℕ → ℕ → ℕ → List ℕ
counts_from report from n = rows (λ i. count_line report (from + 2 * i)) n

-- those that start before `end`
abbrev pub count_lines : List ℕ → ℕ → ℕ → List ℕ
count_lines report from end = counts_from report from ((end - from + 1) / 2)

-- entries, records and counts of a report of `length` bytes, which end in the counts of the edges
abbrev pub report_lines : List ℕ → ℕ → ℕ → ℕ → List ℕ
report_lines report arrays edges length =
    let counts = length - 2 * edges in
    entry_lines report arrays ++ (record_lines report (8 * arrays) counts ++ count_lines report counts length)
