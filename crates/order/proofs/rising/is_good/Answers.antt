-- `is_good` meets its contract.
use mathlib.Core.Path.{ap}
use mathlib.Core.Bool.{◌||◌}
use Prim.Native.Nat.{ℕ}
use lib.Dec.{leb, ltb}
use Rattle.flow.specs.Paths.{edge_count}
use Rattle.order.proofs.rising.is_good.Goals as goal

pub returns : goal.returns
returns c = ap (λ (n : ℕ). ltb 768 (edge_count c.args.edges.now) || leb n 16) c.count_falling.ensures
