-- `entered::mark_all` meets its contract. The invariant: the marked vertices follow.
use mathlib.Core.Path.{◌≡◌}
use lib.ListN.{length}
use Rattle.passes.specs.Marks.{Marked}
use Rattle.routine.specs.Layout.{vertices}
use Rattle.passes.proofs.entered.mark_all.Given as goal

abbrev pub invariant-loop-i : goal.invariant-loop-i
invariant-loop-i l = (length l.marks ≡ vertices l.routine.bytes) × Marked l.routine.bytes l.marks
