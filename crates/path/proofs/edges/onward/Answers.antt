-- `edges::onward` meets its contract, by cases of the test.
use mathlib.Core.Path.{ap}
use Prim.Native.Nat.{◌+◌}
use native.Mathlib.Omega.{arith}
use borrow.Author.Tests.{le-leb, lt-leb}
use Rattle.routine.specs.Edges.{edge_of}
use Rattle.routine.specs.declared.edge.Edge.{Edge}
use Rattle.path.proofs.edges.onward.Goals as goal

pub returns-then-e-w : goal.returns-then-e-w
returns-then-e-w c =
    let a = c.args in
    rw (lt-leb (edge_of a.routine.now.bytes (a.low + a.half)).to a.w (omega (arith, ap (λ (e : Edge). e.to) c.edge-e.ensures, c.if-e-w.true)))

pub returns : goal.returns
returns c =
    let a = c.args in
    rw (le-leb (edge_of a.routine.now.bytes (a.low + a.half)).to a.w (omega (arith, ap (λ (e : Edge). e.to) c.edge-e.ensures, c.if-e-w.false)))
