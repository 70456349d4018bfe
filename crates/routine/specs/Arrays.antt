-- Document 01, "Routine file": arrays, four bytes each.
-- Assumes nothing.
use Rattle.std.specs.Prelude.{Bool, not, ◌||◌, List, ℕ, ◌+◌, eqb, leb, ltb, get_or, take, drop}
use Rattle.routine.specs.declared.array.ArrayRecord.{ArrayRecord}
use Rattle.refusal.specs.declared.Refusal.TheVariants.{WrongArrayByte}
use Rattle.refusal.specs.Checks.{Verdict, ◌and_then◌, holds, first_failed}
use Rattle.routine.specs.Layout.{arrays, record_at, within}
use Rattle.sets.specs.Sets.{width}

-- kind, number of versions, initial version, zero
abbrev pub array_record_of : List ℕ → ArrayRecord
array_record_of b = record { kind = get_or b 0 0; versions = get_or b 1 0; initial = get_or b 2 0; zero = get_or b 3 0 }

-- array a, from four bytes
unfoldable pub array_of : List ℕ → ℕ → ArrayRecord
array_of file a = array_record_of (take 4 (drop (record_at a) file))

-- its kind
abbrev pub kind : List ℕ → ℕ → ℕ
kind file a = (array_of file a).kind

-- its initial version
abbrev pub initial : List ℕ → ℕ → ℕ
initial file a = (array_of file a).initial

-- ---- kinds: 0 local, 1 in, 2 out, 3 inout; the last three are arguments

-- in, out or inout
abbrev pub is_argument : ℕ → Bool
is_argument kind = not (eqb kind 0)

-- an in argument
abbrev pub is_in : ℕ → Bool
is_in kind = eqb kind 1

-- an argument that comes with a value
abbrev pub is_in_or_inout : ℕ → Bool
is_in_or_inout kind = eqb kind 1 || eqb kind 3

-- an argument that goes home with one
abbrev pub is_out_or_inout : ℕ → Bool
is_out_or_inout kind = eqb kind 2 || eqb kind 3

-- ---- check 14

-- kind 0 to 3, versions 1 to 32, initial version below that number, zero: the byte of the first that does not hold
abbrev pub record_check : ArrayRecord → ℕ → Verdict
record_check r at =
    holds (leb r.kind 3) (WrongArrayByte at)
    and_then holds (within 1 width r.versions) (WrongArrayByte (at + 1))
    and_then holds (ltb r.initial r.versions) (WrongArrayByte (at + 2))
    and_then holds (eqb r.zero 0) (WrongArrayByte (at + 3))

-- its lowest wrong byte
unfoldable pub array_check : List ℕ → ℕ → Verdict
array_check file a = record_check (array_of file a) (record_at a)

-- 14: array byte
unfoldable pub check14 : List ℕ → Verdict
unfolding first_failed array_check
check14 file = first_failed (array_check file) 0 (arrays file)
