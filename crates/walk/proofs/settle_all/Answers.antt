-- `walk::settle_all` meets its contract: one array after the other.
use mathlib.Core.Path.{◌≡◌, ap, ◌∙◌}
use native.Mathlib.Omega.{arith}
use Rattle.report.specs.Bytes.{carried_of}
use Rattle.state.specs.Carrying.{carrying}
use Rattle.words.proofs.Replaced.{replacing_begin, replacing_behind, replacing_next, replacing_end}
use Rattle.walk.proofs.settle_all.Goals as goal
use Rattle.walk.proofs.settle_all.Goals.{At-loop-a}

-- the state that comes next is as it was
same : (c : At-loop-a) → carried_of c.loop-a.new c.loop-a.a ≡ carried_of c.args.states c.loop-a.a
same c = replacing_behind c.loop-a.invariant _ (omega arith)

pub loop-a-init : goal.loop-a-init
loop-a-init c = replacing_begin _ _ _ _

pub offset_bounds-new-a : goal.offset_bounds-new-a
offset_bounds-new-a c = omega (arith, c.requires)

pub bounds-new-a : goal.bounds-new-a
bounds-new-a c = omega (arith, c.requires)

pub offset_bounds-stamps-a : goal.offset_bounds-stamps-a
offset_bounds-stamps-a c = omega (arith, c.requires)

pub bounds-stamps-a : goal.bounds-stamps-a
bounds-stamps-a c = omega (arith, c.requires)

pub offset_bounds-new-a-in-loop-a : goal.offset_bounds-new-a-in-loop-a
offset_bounds-new-a-in-loop-a c = omega (arith, c.requires)

pub bounds-new-a-in-loop-a : goal.bounds-new-a-in-loop-a
bounds-new-a-in-loop-a c = omega (arith, c.requires)

pub loop-a-preserved : goal.loop-a-preserved
loop-a-preserved c = replacing_next c.loop-a.invariant (omega arith) (omega arith) (c.with_stamp.ensures ∙ ap (carrying _) (same (goal.at.loop-a-preserved c).At-loop-a))

pub returns : goal.returns
returns c = replacing_end c.loop-a.invariant (omega arith)
