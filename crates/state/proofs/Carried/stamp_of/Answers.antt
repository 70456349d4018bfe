-- `Carried::stamp_of` meets its contract: one test.
use borrow.Author.Tests.{eq-eqb, ne_eqb}
use Rattle.state.proofs.Carried.stamp_of.Goals as goal

pub returns-then-self-k : goal.returns-then-self-k
returns-then-self-k c = rw (eq-eqb c.args.self.current c.args.k c.if-self-k.true)

pub returns : goal.returns
returns c = rw (ne_eqb c.args.self.current c.args.k c.if-self-k.false)
