-- `halves::widen` meets its contract: a table is filled with the halves.
use native.Mathlib.Omega.{arith}
use lib.Seq.{ext_get_or}
use Rattle.words.proofs.Filling.{fill_begin, fill_length, fill_next, fill_at}
use Rattle.halves.proofs.widen.Goals as goal

pub loop-i-init : goal.loop-i-init
loop-i-init c = fill_begin _ (omega arith)

pub loop-i-preserved : goal.loop-i-preserved
loop-i-preserved c = fill_next c.loop-i.invariant c.loop-i-test.true (omega (arith, c.of_halves.ensures))

pub returns : goal.returns
returns c =
    let t = c.loop-i.invariant in
    ext_get_or 0 _ _ (omega (arith, fill_length t)) (λ i l. fill_at t i (omega (arith, fill_length t, c.loop-i-test.false)))
