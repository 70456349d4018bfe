-- `halves::put_low` meets its contract: a table is filled, the high half of each set read before it is written.
use mathlib.Core.Path.{ap, ◌∙◌}
use native.Mathlib.Omega.{arith}
use Rattle.words.proofs.Filling.{fill_begin, fill_next, fill_end, fill_behind}
use Rattle.sets.specs.Sets.{high_half, of_halves}
use Rattle.halves.proofs.put_low.Goals as goal

pub loop-i-init : goal.loop-i-init
loop-i-init c = fill_begin _ (omega arith)

pub loop-i-preserved : goal.loop-i-preserved
loop-i-preserved c = fill_next c.loop-i.invariant c.loop-i-test.true (c.of_halves.ensures ∙ ap (of_halves _) (c.high_half.ensures ∙ ap high_half (fill_behind c.loop-i.invariant)))

pub returns : goal.returns
returns c = fill_end c.loop-i.invariant c.loop-i-test.false
