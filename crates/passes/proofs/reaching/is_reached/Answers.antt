-- `is_reached` meets its contract: bit 0 is the lowest digit.
use mathlib.Core.Path.{sym, ap}
use mathlib.Core.Bool.{◌||◌}
use Prim.Native.Nat.{ℕ}
use lib.Dec.{eqb, ltb}
use Rattle.sets.specs.Sets.{has}
use Rattle.sets.proofs.Laws.{bit_zero}
use Rattle.passes.proofs.reaching.is_reached.Goals as goal

pub returns : goal.returns
unfolding has
returns c = ap (λ (n : ℕ). ltb c.args.i 8 || eqb n 1) (sym (bit_zero c.args.set))
