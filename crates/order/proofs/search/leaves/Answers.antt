-- `order::search::leaves` meets its contract.
use mathlib.Core.Bool.{false≢true}
use Rattle.order.proofs.search.leaves.Goals as goal

pub returns-then-i-edges : goal.returns-then-i-edges
returns-then-i-edges c = λ e. absurd (false≢true e)
