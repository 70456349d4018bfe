-- `any` meets its contract: none of those before v meets the test.
use Rattle.std.proofs.Common.{false, subst, arith}
use borrow.Author.Count.{below_more}
use Rattle.directives.specs.Directives.{directive}
use Rattle.directives.specs.declared.vertex.Directive.{Directive}
use Rattle.facts.proofs.directive.any.Goals as goal

pub loop-v-init : goal.loop-v-init
loop-v-init g c = λ u h. absurd (omega arith)

pub loop-v-preserved : goal.loop-v-preserved
loop-v-preserved g c = λ u h.
    below_more (λ u. goal.F-post g c.args.test (directive c.args.directives.now.bytes u) false) c.loop-v.v c.loop-v.invariant
    (subst (λ (d : Directive). goal.F-post g c.args.test d false) c.directive.ensures c.if-test.ensures) u (omega arith)

pub returns-clause-none : goal.returns-clause-none
returns-clause-none g c = λ e u h. c.loop-v.invariant u (omega (arith, h, c.loop-v-test.false, c.vertices-v-end.ensures))
