-- `entered::mark_all` meets its contract. The invariant: the marked vertices follow.
use mathlib.Core.Path.{◌∙◌}
use Rattle.passes.proofs.entered.mark_all.Goals as goal

pub loop-i-init : goal.loop-i-init
loop-i-init c = (c.requires.marks_len, c.requires.marked)

pub loop-i-preserved : goal.loop-i-preserved
loop-i-preserved c = (c.mark.auto.marks ∙ c.loop-i.invariant.0, c.mark.ensures)

pub returns : goal.returns
returns c = c.loop-i.invariant.1
