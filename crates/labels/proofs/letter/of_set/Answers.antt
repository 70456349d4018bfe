-- `letter::of_set` meets its contract, by cases of the tests.
use Rattle.labels.proofs.letter.of_set.Goals as goal

pub returns-then-not-reference : goal.returns-then-not-reference
returns-then-not-reference c = rw (← c.member-reference.ensures, c.if-not-reference.true)

pub returns-then-not-value : goal.returns-then-not-value
returns-then-not-value c = rw (← c.member-reference.ensures, c.if-not-reference.false, ← c.member-value.ensures, c.if-not-value.true)

pub returns-then-only_read : goal.returns-then-only_read
returns-then-only_read c = rw (← c.member-reference.ensures, c.if-not-reference.false, ← c.member-value.ensures, c.if-not-value.false, ← c.member.ensures, ← c.member-2.ensures, c.if-only_read.true)

pub returns : goal.returns
returns c = rw (← c.member-reference.ensures, c.if-not-reference.false, ← c.member-value.ensures, c.if-not-value.false, ← c.member.ensures, ← c.member-2.ensures, c.if-only_read.false)
