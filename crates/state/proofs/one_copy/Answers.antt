-- `one_copy` meets its contract.
use mathlib.Core.Path.{ap}
use Prim.Native.Nat.{ℕ}
use Rattle.state.proofs.one_copy.Goals as goal

pub returns : goal.returns
returns c = ap (λ (l : ℕ). record { current = c.args.k; live = l; copies = c.args.copies; stamp = c.args.stamp }) c.single.ensures
