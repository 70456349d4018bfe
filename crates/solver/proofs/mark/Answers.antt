-- `solver::mark` meets its contract: one member more in one set.
use mathlib.Core.Path.{ap}
use Prim.Native.Nat.{ℕ}
use lib.Bits.{bit_or}
use lib.ListN.{get_or, set}
use Rattle.solver.proofs.mark.Goals as goal

pub returns : goal.returns
returns c =
    let a = c.args in
    ap (λ (x : ℕ). set a.marks.now a.v (bit_or (get_or a.marks.now a.v 0) x)) c.single.ensures
