-- `array::check_all` meets its contract: a scan of the arrays.
use Rattle.routine.specs.Arrays.{array_check}
use Rattle.routine.specs.Layout.{arrays}
use Rattle.refusal.proofs.Checks.{Undecided}
use Rattle.routine.proofs.array.check_all.Given as goal

abbrev pub invariant-loop-a : goal.invariant-loop-a
invariant-loop-a l = Undecided (array_check l.laid.bytes) (arrays l.laid.bytes) l.a
