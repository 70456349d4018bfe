-- Document 01, "Plan and report": how many references a vertex has, each a record of the report.
-- Assumes nothing.
use Rattle.std.specs.Prelude.{List, ℕ}
use Rattle.labels.specs.Events.{event}
use Rattle.routine.specs.Actions.{is_reference}
use Rattle.routine.specs.Layout.{arrays}
use Rattle.words.specs.Sums.{count_of}

-- references of vertex v
abbrev pub references_at : List ℕ → ℕ → ℕ
references_at file v = count_of (λ a. is_reference (event file a v)) (arrays file)
