-- `walk::has_labels` meets its contract: two tests, and then the row.
use mathlib.Core.Path.{sym, ap, ◌∙◌}
use mathlib.Core.Bool.{◌||◌}
use Prim.Native.Nat.{ℕ, ◌-◌}
use native.Mathlib.Omega.{arith}
use lib.Dec.{eqb}
use Rattle.words.proofs.Tests.{neither}
use Rattle.walk.proofs.Sorts.{at_terminal, at_inner}
use Rattle.walk.proofs.has_labels.Goals as goal

pub overflow_sub-terminal : goal.overflow_sub-terminal
overflow_sub-terminal c = omega (arith, c.vertices.ensures, c.args.routine.now.well.laid.limits.two_vertices)

pub returns-then-terminal : goal.returns-then-terminal
returns-then-terminal c = at_terminal c.args.routine.now.well c.args.v (sym (ap (λ (n : ℕ). eqb c.args.v 0 || eqb c.args.v (n - 1)) c.vertices.ensures) ∙ c.if-terminal.true)

pub returns : goal.returns
returns c =
    let no = neither _ _ c.if-terminal.false in
    let last = sym (ap (λ (n : ℕ). eqb c.args.v (n - 1)) c.vertices.ensures) ∙ no.1 in
    at_inner c.args.routine.now.bytes c.args.v no.0 last c.remaps.result c.remaps.ensures
