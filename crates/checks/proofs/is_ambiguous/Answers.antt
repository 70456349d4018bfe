-- `is_ambiguous` meets its contract: bit 0 is the lowest digit.
use mathlib.Core.Path.{sym, ap, ap₂}
use mathlib.Core.Bool.{◌&&◌}
use Prim.Native.Nat.{ℕ}
use lib.Dec.{eqb}
use Rattle.sets.specs.Sets.{has}
use Rattle.sets.proofs.Laws.{bit_zero}
use Rattle.checks.proofs.is_ambiguous.Goals as goal

pub returns : goal.returns
unfolding has
returns c = ap₂ ◌&&◌ (ap (λ (n : ℕ). eqb n 1) (sym (bit_zero c.args.uses))) c.more_than_one.ensures
