-- Document 01, "Who can cause a refusal", the routine's programmer: 20 and 21, first by vertex, then by array.
-- Assumes nothing.
use Rattle.std.specs.Prelude.{Bool, ◌&&◌, List, ℕ}
use Rattle.refusal.specs.Checks.{◌and_then◌, Verdict}
use Rattle.refusal.specs.Faults.{first_fault}
use Rattle.routine.specs.Layout.{arrays, vertices}
use Rattle.refusal.specs.declared.Refusal.TheVariants.{WritesInArgument, AmbiguousReference}
use Rattle.labels.specs.Events.{event, is_write}
use Rattle.routine.specs.Arrays.{kind, is_in}
use Rattle.labels.specs.Ambiguity.{is_ambiguous}

-- 20: define or modify of an in argument
unfoldable pub writes_in : List ℕ → ℕ → ℕ → Bool
unfolding event
writes_in file a v = is_in (kind file a) && is_write (event file a v)

-- 20, at the first such place
unfoldable pub check20 : List ℕ → Verdict
unfolding first_fault writes_in
check20 file = first_fault (λ v a. writes_in file a v) WritesInArgument (vertices file) (arrays file)

-- 21: ambiguous reference
unfoldable pub check21 : List ℕ → Verdict
unfolding first_fault is_ambiguous
check21 file = first_fault (λ v a. is_ambiguous file a v) AmbiguousReference (vertices file) (arrays file)

-- 20, then 21
unfoldable pub programmer_check : List ℕ → Verdict
unfolding check20 check21
programmer_check file = check20 file and_then check21 file
