-- `sets::member` meets its contract: the bit that the shift brings down.
use mathlib.Core.Path.{ap}
use Prim.Native.Nat.{ℕ}
use lib.Dec.{eqb}
use Rattle.sets.specs.Sets.{has}
use Rattle.sets.proofs.Laws.{test_shift}
use Rattle.sets.proofs.member.Goals as goal

pub returns : goal.returns
unfolding has
returns c = ap (λ (n : ℕ). eqb n 1) (test_shift c.args.set c.args.k)
