-- `field::check` meets its contract, by cases of the tests.
use borrow.Author.Tests.{le-leb}
use Rattle.words.proofs.Tests.{tests}
use Rattle.directives.proofs.field.check.Goals as goal

pub returns-then-at-wide : goal.returns-then-at-wide
returns-then-at-wide c = search tests

pub returns-then-not-right : goal.returns-then-not-right
returns-then-not-right c = rw (le-leb _ _ c.if-at-wide.false, c.if-not-right.true)

pub returns : goal.returns
returns c = rw (le-leb _ _ c.if-at-wide.false, c.if-not-right.false)
