-- `uses::write` meets its contract: a table is filled.
use mathlib.Core.Path.{ap, ◌∙◌}
use Rattle.labels.specs.Letters.{letter_byte}
use Rattle.words.proofs.Filling.{fill_begin, fill_next, fill_end}
use Rattle.passes.proofs.uses.write.Goals as goal

pub loop-i-init : goal.loop-i-init
loop-i-init c = fill_begin _ c.requires

pub loop-i-preserved : goal.loop-i-preserved
loop-i-preserved c = fill_next c.loop-i.invariant c.loop-i-test.true (c.from.ensures ∙ ap letter_byte c.of_set.ensures)

pub returns : goal.returns
returns c = fill_end c.loop-i.invariant c.loop-i-test.false
