-- `rises_at` meets its contract: the first edge rises, any other is held against the one before it.
use mathlib.Core.Path.{◌≡◌, sym, ap, ap₂, ◌∙◌}
use Prim.Native.Nat.{suc, ◌-◌}
use native.Mathlib.Omega.{arith}
use Rattle.routine.specs.Edges.{edge_of, before, rises}
use Rattle.routine.proofs.edge.rises_at.Goals as goal

pub returns-then-i-eq0 : goal.returns-then-i-eq0
unfolding rises
returns-then-i-eq0 c = cc

pub returns-else-i-eq0 : goal.returns-else-i-eq0
unfolding rises
returns-else-i-eq0 c =
    let a = c.args in
    let e : a.i ≡ suc (a.i - 1) = omega arith in
    c.is_before.ensures
    ∙ ap₂ before c.edge.ensures (c.edge-else-i-eq0.ensures ∙ ap (edge_of a.laid.now.bytes) e)
    ∙ sym (ap (rises a.laid.now.bytes) e)
