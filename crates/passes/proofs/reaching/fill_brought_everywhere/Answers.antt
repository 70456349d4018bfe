-- `reaching::fill_brought_everywhere` meets its contract: two tables are filled, the first with what stands in another.
use mathlib.Core.Path.{refl}
use native.Mathlib.Omega.{arith}
use lib.Seq.{ext_get_or}
use Rattle.words.proofs.Filling.{fill_begin, fill_length, fill_next, fill_at, fill_end}
use Rattle.passes.proofs.reaching.fill_brought_everywhere.Goals as goal

pub loop-i-init : goal.loop-i-init
loop-i-init c = (fill_begin _ (omega arith), fill_begin _ (omega arith))

pub loop-i-preserved : goal.loop-i-preserved
loop-i-preserved c = (fill_next c.loop-i.invariant.0 c.loop-i-test.true refl, fill_next c.loop-i.invariant.1 c.loop-i-test.true c.every_if.ensures)

pub returns : goal.returns
returns c =
    let t = c.loop-i.invariant.0 in
    record {
      gives_after = ext_get_or 0 _ _ (omega (arith, fill_length t)) (λ i l. fill_at t i (omega (arith, fill_length t, c.loop-i-test.false)));
      passes_after = fill_end c.loop-i.invariant.1 c.loop-i-test.false;
    }
