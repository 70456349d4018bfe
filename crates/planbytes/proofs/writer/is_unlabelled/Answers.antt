-- `writer::is_unlabelled` meets its contract. The invariant: if `all` is empty, so are the first a cells.
use mathlib.Core.Path.{◌≡◌, ap, ◌∙◌}
use mathlib.Core.Logic.{⊎_elim}
use Prim.Native.Nat.{ℕ, ◌+◌, ◌*◌, ◌≤◌, ◌<◌}
use native.Mathlib.Nat.{eq-or-lt_of_le}
use native.Mathlib.Omega.{arith}
use borrow.Author.Tests.{eqb-true}
use lib.ListN.{get_or}
use Rattle.sets.proofs.Laws.{or_none}
use Rattle.planbytes.proofs.writer.is_unlabelled.Goals as goal

pub loop-a-init : goal.loop-a-init
loop-a-init c = (omega arith, λ e b l. absurd (omega arith))

pub loop-a-preserved : goal.loop-a-preserved
loop-a-preserved c = (
  omega arith,
  λ e b h.
      let parts = or_none c.loop-a.all (get_or c.args.versions.now (8 * c.args.v + c.loop-a.a) 0) e in
      ⊎_elim
      (λ (q : b ≡ c.loop-a.a). ap (λ (i : ℕ). get_or c.args.versions.now (8 * c.args.v + i) 0) q ∙ parts.1)
      (λ (k : b < c.loop-a.a). c.loop-a.invariant.1 parts.0 b k)
      (eq-or-lt_of_le (let k : b ≤ c.loop-a.a = omega arith in k)),
)

pub returns : goal.returns
returns c = λ e a h. c.loop-a.invariant.1 (eqb-true c.loop-a.all 0 e) a (omega (arith, c.loop-a-test.false))
