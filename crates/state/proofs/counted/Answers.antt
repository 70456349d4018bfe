-- `counted` meets its contract: the test decides the choice.
use native.Mathlib.Omega.{arith}
use Rattle.state.proofs.counted.Goals as goal

pub returns-then-copied : goal.returns-then-copied
returns-then-copied c = simp c.if-copied.true

pub returns : goal.returns
returns c = simp c.if-copied.false (omega arith)
