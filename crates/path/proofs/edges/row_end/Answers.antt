-- `edges::row_end` meets its contract. The invariant: the edges before i leave v or earlier vertices, the others v or later ones.
use mathlib.Core.Path.{◌≡◌, ap, subst}
use Prim.Native.Nat.{◌+◌}
use native.Mathlib.Omega.{arith}
use Rattle.path.specs.Places.{RowStart}
use Rattle.routine.specs.declared.edge.Edge.{Edge}
use Rattle.path.proofs.Places.{row_begin, row_next, row_stop, row_done}
use Rattle.path.proofs.edges.row_end.Goals as goal

pub loop-i-init : goal.loop-i-init
loop-i-init c = row_begin c.requires.row_start

pub returns-then-edge-v : goal.returns-then-edge-v
returns-then-edge-v c =
    row_stop c.loop-i.invariant c.args.routine.now.well (omega (arith, c.edges-i-end.ensures)) (λ e. omega (arith, ap (λ (e : Edge). e.from) c.edge.ensures))

pub loop-i-preserved : goal.loop-i-preserved
loop-i-preserved c = row_next c.loop-i.invariant (omega (arith, c.edges-i-end.ensures)) (omega (arith, ap (λ (e : Edge). e.from) c.edge.ensures))

pub returns : goal.returns
returns c =
    let all : c.loop-i.i ≡ c.edges.result = omega (arith, c.edges-i-end.ensures, c.edges.ensures, c.loop-i-test.false, c.loop-i.invariant.within) in
    subst (RowStart c.args.routine.now.bytes (c.args.v + 1)) all (row_done c.loop-i.invariant (omega (arith, c.edges-i-end.ensures)))
