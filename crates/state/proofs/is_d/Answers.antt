-- `is_d` meets its contract, letter by letter.
use mathlib.Core.Path.{sym, ap}
use Rattle.state.specs.Moves.{is_d}
use Rattle.state.proofs.is_d.Goals as goal

pub returns-in-N : goal.returns-in-N
returns-in-N c = sym (ap is_d c.in-N.is)

pub returns-in-D : goal.returns-in-D
returns-in-D c = sym (ap is_d c.in-D.is)

pub returns-in-R : goal.returns-in-R
returns-in-R c = sym (ap is_d c.in-R.is)

pub returns-in-W : goal.returns-in-W
returns-in-W c = sym (ap is_d c.in-W.is)
