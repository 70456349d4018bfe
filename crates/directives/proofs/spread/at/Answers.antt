-- `spread::at` meets its contract: two dimensions.
use mathlib.Core.Path.{ap₂}
use Prim.Native.Nat.{ℕ}
use Rattle.directives.specs.Directives.{spread_at}
use Rattle.directives.proofs.spread.at.Goals as goal

pub returns : goal.returns
unfolding spread_at
returns c = ap₂ (λ (x y : ℕ). record { first = x; second = y }) c.dimension.ensures c.dimension-2.ensures
