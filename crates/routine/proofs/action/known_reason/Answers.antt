-- `known_reason` meets its contract, in the order of the numbers.
use Rattle.routine.proofs.action.known_reason.Goals as goal

pub returns-then-large : goal.returns-then-large
returns-then-large c = rw c.if-large.true

pub returns-then-terminal : goal.returns-then-terminal
returns-then-terminal c = rw (c.if-large.false, c.if-terminal.true)

pub returns : goal.returns
returns c = rw (c.if-large.false, c.if-terminal.false)
