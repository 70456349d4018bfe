-- `pass::order` meets its contract: what is ordered are the edges of the file.
use mathlib.Core.Path.{subst}
use mathlib.Core.List.{List}
use Prim.Native.Nat.{ℕ}
use Rattle.flow.specs.Order.{Order}
use Rattle.flow.specs.Paths.{edge_count}
use Rattle.passes.proofs.pass.order.Goals as goal

pub returns : goal.returns
returns c = subst (λ (es : List ℕ). Order (edge_count es) c.fill.new.order) c.edge_bytes.ensures c.fill.ensures
