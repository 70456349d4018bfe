-- `solver::without` meets its contract: masking by a complement takes one member away.
use mathlib.Core.Path.{ap, ◌∙◌}
use Prim.Native.Nat.{ℕ, ◌-◌, ◌^◌}
use lib.Bits.{bit_and}
use lib.Pow.{pow-lt}
use Rattle.sets.proofs.Laws.{minus-mask}
use Rattle.solver.proofs.without.Goals as goal

pub returns : goal.returns
returns c =
    let a = c.args in
    ap (λ (x : ℕ). bit_and a.pending (2 ^ 64 - 1 - x)) c.single.ensures
    ∙ minus-mask 64 a.pending (2 ^ a.b) c.ranges.pending.fits (pow-lt c.requires)
