-- `flow::sweep` meets its contract. The invariant: the first j edges of the round were taken, and the note says what that added.
use denote.Param.{number}
use Rattle.flow.specs.contracts.sweep.{ALONG-type}
use Rattle.flow.specs.Solver.{Recent}
use Rattle.flow.proofs.Rows.{Sweeping}
use Rattle.flow.proofs.sweep.Given as goal

abbrev pub invariant-loop-j : goal.invariant-loop-j
invariant-loop-j g l = Sweeping l.edges (ALONG-type (number g.row.ALONG)) l.gives l.passes l.order l.initial.sets l.j l.sets l.last.note × Recent l.sets l.last
