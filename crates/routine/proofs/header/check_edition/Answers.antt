-- `check_edition` meets its contract, by cases of the test.
use Rattle.routine.specs.Layout.{check11}
use Rattle.words.proofs.Tests.{tests}
use Rattle.routine.proofs.header.check_edition.Goals as goal

pub returns-then-edition-ne1 : goal.returns-then-edition-ne1
unfolding check11
returns-then-edition-ne1 c = search (tests, ← c.at-edition.ensures)

pub returns : goal.returns
unfolding check11
returns c = search (tests, ← c.at-edition.ensures)
