-- `any` meets its contract: none of those before v meets the test.
use Rattle.std.proofs.Common.{ℕ, false, ◌<◌}
use Rattle.directives.specs.Directives.{directive}
use Rattle.facts.proofs.directive.any.Given as goal

abbrev pub invariant-loop-v : goal.invariant-loop-v
invariant-loop-v g l = (u : ℕ) → u < l.v → goal.F-post g l.test (directive l.directives.bytes u) false
