-- `edges::leaves` meets its contract.
use mathlib.Core.Path.{ap}
use native.Mathlib.Omega.{arith}
use Rattle.routine.specs.declared.edge.Edge.{Edge}
use Rattle.calls.proofs.Written.{leaves_tell}
use Rattle.calls.proofs.edges.leaves.Goals as goal

pub returns : goal.returns
returns c = leaves_tell c.args.routine.now.bytes c.args.i c.args.v c.edge.result.from (omega (arith, c.if-i-edges.false, c.edges.ensures)) (ap (λ (e : Edge). e.from) c.edge.ensures)
