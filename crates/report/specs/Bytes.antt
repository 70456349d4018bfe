-- Document 01, "Plan and report": the bytes of an array's entry and of a record; document 02, request 8: those of counts.
-- Assumes nothing.
use Rattle.std.specs.Prelude.{List, [], ◌∷◌, ◌++◌, ℕ, length, get_or}
use Rattle.report.specs.Records.{kind_of}
use Rattle.report.specs.declared.record.Record.{Record}
use Rattle.state.specs.Carrying.{bare}
use Rattle.state.specs.States.{State}
use Rattle.state.specs.declared.Carried.{Carried}
use Rattle.words.specs.Tables.{rows}
use Rattle.words.specs.Words.{bytes16, bytes32}

-- for each array eight bytes: copies, live set, current version or 255, zero
abbrev pub entry_bytes : State → List ℕ
entry_bytes s = bytes16 s.copies ++ (bytes32 s.live ++ (s.current ∷ 0 ∷ []))

-- how the code keeps it: the state of array a in a list of carried states, and past its end zeros
abbrev pub carried_of : List Carried → ℕ → Carried
carried_of states a = get_or states a (record { current = 0; live = 0; copies = 0; stamp = 0 })

-- how the code keeps it: the entries of the first m arrays
abbrev pub entries_of : List Carried → ℕ → List ℕ
entries_of states m = rows (λ a. entry_bytes (bare (carried_of states a))) m

-- ten bytes for each reference: step, array, version, kind, zero, stamp seen, new stamp
abbrev pub record_bytes : Record → List ℕ
record_bytes r = bytes16 r.step ++ (r.array ∷ r.version ∷ kind_of r.access ∷ 0 ∷ (bytes16 r.seen ++ bytes16 r.new))

-- records, one after the other
abbrev pub records_bytes : List Record → List ℕ
records_bytes [] = []
records_bytes (r ∷ rs) = record_bytes r ++ records_bytes rs

-- two bytes for each count
abbrev pub counts_of : List ℕ → List ℕ
counts_of counts = rows (λ i. bytes16 (get_or counts i 0)) (length counts)
