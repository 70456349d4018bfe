-- `check_arrivals_by` meets its contract: a scan of the arrivals, with the counts of the steps so far.
use mathlib.Core.Path.{◌≡◌}
use Prim.Native.Nat.{◌+◌, ◌-◌}
use Rattle.refusal.proofs.Checks.{Undecided}
use Rattle.routine.specs.Layout.{edges}
use Rattle.words.specs.Tables.{table}
use Rattle.path.specs.Passes.{passes_up_to}
use Rattle.path.specs.Paths.{steps, arrival_check}
use Rattle.path.proofs.check_arrivals_by.Given as goal

abbrev pub invariant-loop-i : goal.invariant-loop-i
invariant-loop-i l = Undecided (λ j. arrival_check l.routine.bytes l.path (j + 1)) (steps l.path - 1) l.i × (l.taken ≡ table (passes_up_to l.routine.bytes l.path l.i) (edges l.routine.bytes))
