-- `flow::far_end` meets its contract: the word where the edge has that end.
use mathlib.Core.Path.{ap, sym, ◌∙◌}
use mathlib.Core.Bool.{Bool}
use Rattle.flow.specs.Solver.{far}
use Rattle.flow.proofs.far_end.Goals as goal

pub returns-then-along : goal.returns-then-along
returns-then-along c =
    let a = c.args in
    c.at.ensures ∙ ap (λ (b : Bool). far a.edges.now b a.i) (sym c.if-along.true)

pub returns : goal.returns
returns c =
    let a = c.args in
    c.at-2.ensures ∙ ap (λ (b : Bool). far a.edges.now b a.i) (sym c.if-along.false)
