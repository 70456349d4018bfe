-- `array::check` meets its contract.
use Rattle.routine.specs.Arrays.{array_check}
use Rattle.routine.proofs.array.check.Goals as goal

pub returns : goal.returns
unfolding array_check
returns c = rw (c.check.ensures, c.array.ensures)
