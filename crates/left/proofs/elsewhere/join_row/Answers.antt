-- `elsewhere::join_row` meets its contract: a row is replaced.
use mathlib.Core.Path.{refl, ap}
use Prim.Native.Nat.{ℕ, ◌+◌, ◌*◌}
use lib.Bits.{bit_or}
use lib.ListN.{get_or}
use Rattle.words.proofs.Replaced.{replacing_begin, replacing_behind, replacing_next, replacing_end}
use Rattle.left.proofs.elsewhere.join_row.Goals as goal

pub loop-a-init : goal.loop-a-init
loop-a-init c = replacing_begin _ _ _ _

pub loop-a-preserved : goal.loop-a-preserved
loop-a-preserved c =
    let x = get_or c.args.held.now (8 * c.args.v + c.loop-a.a) 0 in
    replacing_next c.loop-a.invariant c.loop-a-test.true refl (ap (λ (y : ℕ). bit_or y x) (replacing_behind c.loop-a.invariant 0 refl))

pub shape_of-others : goal.shape_of-others
shape_of-others c = c.loop-a.invariant.sized

pub returns : goal.returns
returns c = replacing_end c.loop-a.invariant c.loop-a-test.false
