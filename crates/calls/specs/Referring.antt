-- Document 02, request 3: the file with each call read as the reference of its intent. 20 and 21 are asked of it: passing an `in` argument
-- as out or inout is 20, a call to which two versions may come is 21; and a call, which is no label there, hands on all that come. Its
-- vertices are the file's, and so are the places.
-- Assumes nothing.
use Rattle.std.specs.Prelude.{cond, List, ◌++◌, ℕ, ◌+◌, ◌*◌, eqb, get_or, take, drop}
use Rattle.std.specs.Int.Count.{count_trailing_zeros}
use Rattle.labels.specs.Ambiguity.{brought_of}
use Rattle.routine.specs.Actions.{is_call}
use Rattle.routine.specs.Arrays.{initial}
use Rattle.routine.specs.Layout.{arrays, vertices, actions_at, edges_at}
use Rattle.sets.specs.Sets.{width}
use Rattle.words.specs.Tables.{table, rows}
use Rattle.calls.specs.Calls.{intent_byte}

-- a call's byte becomes that of its intent
abbrev pub referring_byte : ℕ → ℕ
referring_byte b = cond (is_call b) (intent_byte b) b

-- the file with calls as references
unfoldable pub referring : List ℕ → List ℕ
unfolding rows
referring file =
    take (actions_at file) file
    ++ (table (λ i. referring_byte (get_or file (actions_at file + i) 0)) (vertices file * arrays file) ++ drop (edges_at file) file)

-- the versions that arrive at the call at v, as a set: those that paths bring there, dropped labels included
unfoldable pub arriving : List ℕ → ℕ → ℕ → ℕ
unfolding brought_of referring
arriving file a v = brought_of (referring file) a v

-- the version that the source names before the call: the one that arrives, or the initial one if no path gets there
unfoldable pub return_version : List ℕ → ℕ → ℕ → ℕ
unfolding arriving
return_version file a v = cond (eqb (arriving file a v) 0) (initial file a) (count_trailing_zeros width (arriving file a v))
