-- `rises_at` meets its contract: the first edge rises, any other is held against the one before it.
use mathlib.Core.Path.{◌≡◌, sym, ap, ap₂, ◌∙◌}
use Prim.Native.Nat.{suc, ◌-◌}
use native.Mathlib.Omega.{arith}
use Rattle.routine.specs.Edges.{before}
use Rattle.directives.specs.Fields.{edge_of, rises}
use Rattle.directives.proofs.edge.rises_at.Goals as goal

pub returns-then-i-eq0 : goal.returns-then-i-eq0
unfolding rises
returns-then-i-eq0 c = cc

pub returns : goal.returns
unfolding rises
returns c =
    let a = c.args in
    let e : a.i ≡ suc (a.i - 1) = omega arith in
    c.is_before.ensures
    ∙ ap₂ before c.at.ensures (c.at-2.ensures ∙ ap (edge_of a.laid.now.bytes) e)
    ∙ sym (ap (rises a.laid.now.bytes) e)
