-- `check_mark` meets its contract, by cases of the tests.
use borrow.Author.Tests.{le-leb}
use Rattle.routine.specs.Layout.{check10}
use Rattle.words.proofs.Tests.{tests}
use Rattle.routine.proofs.header.check_mark.Goals as goal

pub returns-then-length-lt-SIZE : goal.returns-then-length-lt-SIZE
unfolding check10
returns-then-length-lt-SIZE c = search tests

pub returns-then-not-marked : goal.returns-then-not-marked
unfolding check10
returns-then-not-marked c = rw (le-leb _ _ c.if-length-lt-SIZE.false, ← c.is_marked-marked.ensures, c.if-not-marked.true)

pub returns : goal.returns
unfolding check10
returns c = rw (le-leb _ _ c.if-length-lt-SIZE.false, ← c.is_marked-marked.ensures, c.if-not-marked.false)
