-- How the code keeps it: the rows of what a vertex of the file becomes.
-- Assumes nothing.
use Rattle.std.specs.Prelude.{cond, List, ◌++◌, ℕ}
use Rattle.routine.specs.Layout.{arrays}
use Rattle.words.specs.Tables.{table, rows}
use Rattle.calls.specs.Calls.{is_call_row}
use Rattle.calls.specs.Expanded.{expanded_byte}
use Rattle.calls.specs.Parts.{Part, plain, passing, calling, returning}
use Rattle.calls.specs.Referring.{return_version}
use Rattle.calls.specs.declared.rows.Row.{Row}
use Rattle.calls.specs.declared.rows.Row.TheVariants.{Passing, Calling, Returning}

-- the part of the call at v that a row is of
abbrev pub part_of : Row → ℕ → Part
part_of Passing v = passing v
part_of Calling v = calling v
part_of Returning v = returning v

-- the row of a part
unfoldable pub part_row : List ℕ → Part → List ℕ
unfolding return_version rows
part_row file p = table (λ a. expanded_byte file a p) (arrays file)

-- the three rows of the call at v
abbrev pub call_rows : List ℕ → ℕ → List ℕ
call_rows file v = (part_row file (passing v) ++ part_row file (calling v)) ++ part_row file (returning v)

-- three, or one
unfoldable pub vertex_rows : List ℕ → ℕ → List ℕ
unfolding part_row is_call_row
vertex_rows file v = cond (is_call_row file v) (call_rows file v) (part_row file (plain v))
