-- `reaching::fill_everywhere` meets its contract: two tables are filled.
use mathlib.Core.Path.{ap, ◌∙◌}
use mathlib.Core.Bool.{Bool, cond}
use Prim.Native.Nat.{ℕ}
use lib.Dec.{eqb}
use lib.ListN.{get_or}
use Rattle.words.proofs.Filling.{fill_begin, fill_next, fill_end}
use Rattle.sets.specs.Sets.{every_half}
use Rattle.passes.proofs.reaching.fill_everywhere.Goals as goal

pub loop-i-init : goal.loop-i-init
loop-i-init c = (fill_begin _ c.requires.gives_len, fill_begin _ c.requires.passes_len)

pub loop-i-preserved : goal.loop-i-preserved
loop-i-preserved c =
    let version = get_or c.args.versions.now c.loop-i.i 0 in
    let given = c.only_if-given.ensures ∙ ap (λ (b : Bool). cond b version 0) c.leaves.ensures in (
      fill_next c.loop-i.invariant.0 c.loop-i-test.true given,
      fill_next c.loop-i.invariant.1 c.loop-i-test.true (c.every_if.ensures ∙ ap (λ (x : ℕ). cond (eqb x 0) every_half 0) given),
    )

pub returns : goal.returns
returns c =
    record {
      gives_after = fill_end c.loop-i.invariant.0 c.loop-i-test.false;
      passes_after = fill_end c.loop-i.invariant.1 c.loop-i-test.false;
    }
