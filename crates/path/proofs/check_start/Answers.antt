-- `check_start` meets its contract, by cases of the test.
use native.Mathlib.Omega.{arith}
use borrow.Author.Tests.{eq-eqb, ne_eqb}
use Rattle.path.proofs.check_start.Goals as goal

pub returns-then-first-ne0 : goal.returns-then-first-ne0
returns-then-first-ne0 c = rw (← c.vertex-first.ensures, ne_eqb c.vertex-first.result 0 (λ e. omega arith))

pub returns : goal.returns
returns c = rw (← c.vertex-first.ensures, eq-eqb c.vertex-first.result 0 (omega arith))
