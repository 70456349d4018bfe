-- `halves::put_high` meets its contract: a table is filled, the low half of each set read before it is written.
use mathlib.Core.Path.{ap, ◌∙◌}
use Prim.Native.Nat.{ℕ}
use native.Mathlib.Omega.{arith}
use lib.ListN.{get_or}
use Rattle.words.proofs.Filling.{fill_begin, fill_next, fill_end, fill_behind}
use Rattle.sets.specs.Sets.{low_half, of_halves}
use Rattle.halves.proofs.put_high.Goals as goal

pub loop-i-init : goal.loop-i-init
loop-i-init c = fill_begin _ (omega arith)

pub loop-i-preserved : goal.loop-i-preserved
loop-i-preserved c =
    let high = get_or c.args.halves.now c.loop-i.i 0 in
    fill_next c.loop-i.invariant c.loop-i-test.true (c.of_halves.ensures ∙ ap (λ (x : ℕ). of_halves x high) (c.low_half.ensures ∙ ap low_half (fill_behind c.loop-i.invariant)))

pub returns : goal.returns
returns c = fill_end c.loop-i.invariant c.loop-i-test.false
