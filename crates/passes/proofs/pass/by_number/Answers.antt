-- `pass::by_number` meets its contract: the order has an entry for each edge of the file.
use mathlib.Core.Path.{sym, subst, ◌∙◌}
use Prim.Native.Nat.{ℕ}
use Rattle.flow.specs.Order.{Order}
use Rattle.labels.proofs.Rules.Proper.{edge_count_lem}
use Rattle.passes.proofs.pass.by_number.Goals as goal

pub returns : goal.returns
returns c = subst (λ (k : ℕ). Order k c.by_number.new.order) (c.requires.order_len ∙ sym (edge_count_lem _ c.args.routine.now.well.laid)) c.by_number.ensures
