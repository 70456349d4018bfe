-- Document 01, "Plan and report": one record for each reference on the path. Run and machine build them alike.
-- Assumes nothing.
use Rattle.std.specs.Prelude.{List, [], ◌∷◌, ℕ}
use Rattle.routine.specs.declared.action.Access.{Access}
use Rattle.routine.specs.declared.action.Access.TheVariants.{Read, Define, Modify, Kill}
use Rattle.routine.specs.declared.action.Action.{Action}
use Rattle.routine.specs.declared.action.Action.TheVariants.{Nothing, Reference, Remap, Unknown}
use Rattle.words.specs.Tables.{rows}
use Rattle.report.specs.declared.record.Record.{Record}

-- kind: 1 read, 2 define, 3 modify, 4 kill
abbrev pub kind_of : Access → ℕ
kind_of Read = 1
kind_of Define = 2
kind_of Modify = 3
kind_of Kill = 4

-- stamp seen, 0 for define and kill
abbrev pub seen_by : Access → ℕ → ℕ
seen_by Read stamp = stamp
seen_by Define stamp = 0
seen_by Modify stamp = stamp
seen_by Kill stamp = 0

-- new stamp, 0 for read and kill: a define or modify gives its step number
abbrev pub new_by : Access → ℕ → ℕ
new_by Read step = 0
new_by Define step = step
new_by Modify step = step
new_by Kill step = 0

-- the record of a reference to an array, of the version that is used and the stamp that stood before this step
abbrev pub record_of : Access → ℕ → ℕ → ℕ → ℕ → Record
record_of x step array version stamp =
    record { step = step; array = array; version = version; access = x; seen = seen_by x stamp; new = new_by x step }

-- an event's records: one if it is a reference
abbrev pub records_at : Action → ℕ → ℕ → ℕ → ℕ → List Record
records_at Nothing step array version stamp = []
records_at (Reference x) step array version stamp = record_of x step array version stamp ∷ []
records_at (Remap k) step array version stamp = []
records_at Unknown step array version stamp = []

-- the records of n steps with m arrays each, by step, then array: `at i a` are those of array a at index i of the path
abbrev pub by_step : (ℕ → ℕ → List Record) → ℕ → ℕ → List Record
by_step at m n = rows (λ i. rows (at i) m) n
