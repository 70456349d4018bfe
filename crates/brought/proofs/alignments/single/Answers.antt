-- `alignments::single` meets its contract: an alignment as a number is below 16, so that the set fits a half.
use Prim.Native.Nat.{◌+◌, ◌*◌}
use native.Mathlib.Omega.{arith}
use lib.Pow.{pow-lt}
use Rattle.sets.specs.Sets.{half_width}
use Rattle.brought.proofs.alignments.single.Goals as goal

pub overflow_cast-result : goal.overflow_cast-result
overflow_cast-result c = let x = c.args.x in omega (arith, c.single.ensures, pow-lt {i = 2 * x.template + x.exchanged} {j = half_width} (omega arith))
