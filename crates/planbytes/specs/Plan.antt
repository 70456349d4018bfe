-- Document 01, "Plan and report": the plan's bytes.
-- Assumes nothing.
use Rattle.std.specs.Prelude.{cond, List, [], ◌∷◌, ◌++◌, ℕ, ◌+◌, ◌*◌}
use Rattle.labels.specs.Events.{event, is_label}
use Rattle.labels.specs.Kept.{kept_of}
use Rattle.labels.specs.Letters.{letter_byte}
use Rattle.labels.specs.Reaching.{reaching_of}
use Rattle.labels.specs.Uses.{use_of, leaving_byte}
use Rattle.routine.specs.Layout.{arrays, vertices}
use Rattle.words.specs.Sums.{total, count_of}
use Rattle.words.specs.Tables.{rows}
use Rattle.words.specs.Words.{bytes16, bytes32}

-- `HPF2`
abbrev pub mark : List ℕ
mark = 72 ∷ 80 ∷ 70 ∷ 50 ∷ []

-- ---- how many labels

-- the labels of vertex v
unfoldable pub labels_at : List ℕ → ℕ → ℕ
unfolding total event
labels_at file v = count_of (λ a. is_label file a v) (arrays file)

-- of the vertices before v: the index of v's first label, or the one that it would have had
unfoldable pub labels_before : List ℕ → ℕ → ℕ
unfolding total labels_at
labels_before file v = total (labels_at file) v

-- of all vertices
unfoldable pub label_count : List ℕ → ℕ
unfolding labels_before
label_count file = labels_before file (vertices file)

-- ---- contents: for each vertex the index of its first label and how many, 16 bits each

-- the entry of vertex v
unfoldable pub contents_entry : List ℕ → ℕ → List ℕ
unfolding labels_before labels_at
contents_entry file v = bytes16 (labels_before file v) ++ bytes16 (labels_at file v)

-- the entries of all vertices
unfoldable pub contents : List ℕ → List ℕ
unfolding rows contents_entry
contents file = rows (contents_entry file) (vertices file)

-- ---- labels of twelve bytes by vertex, then array: array, use letter, leaving version (255 none), zero, reaching, kept

-- its twelve bytes
abbrev pub twelve_bytes : ℕ → ℕ → ℕ → ℕ → ℕ → List ℕ
twelve_bytes array letter leaving reaching kept = array ∷ letter ∷ leaving ∷ 0 ∷ (bytes32 reaching ++ bytes32 kept)

-- the label of array a at vertex v
unfoldable pub label_bytes : List ℕ → ℕ → ℕ → List ℕ
unfolding use_of leaving_byte reaching_of kept_of
label_bytes file a v =
    twelve_bytes a (letter_byte (use_of file a v)) (leaving_byte file a v) (reaching_of file a v) (kept_of file a v)

-- a label's bytes, none where array a has no label at v
unfoldable pub label_entry : List ℕ → ℕ → ℕ → List ℕ
unfolding event label_bytes
label_entry file a v = cond (is_label file a v) (label_bytes file a v) []

-- the labels of vertex v
unfoldable pub label_row : List ℕ → ℕ → List ℕ
unfolding rows label_entry
label_row file v = rows (λ a. label_entry file a v) (arrays file)

-- the labels of all vertices
unfoldable pub labels : List ℕ → List ℕ
unfolding rows label_row
labels file = rows (label_row file) (vertices file)

-- ---- the plan: mark, vertex count, label count, contents, labels

-- mark and counts
abbrev pub plan_head : ℕ → ℕ → List ℕ
plan_head vertex_count label_count = mark ++ (bytes16 vertex_count ++ bytes16 label_count)

-- the plan
unfoldable pub plan_bytes : List ℕ → List ℕ
unfolding label_count contents labels
plan_bytes file = (plan_head (vertices file) (label_count file) ++ contents file) ++ labels file

-- its length
unfoldable pub plan_length : List ℕ → ℕ
unfolding label_count
plan_length file = 8 + 4 * vertices file + 12 * label_count file
