-- `halves::take_low` meets its contract: a table is filled; where the union of the high halves is empty, each of them is.
use mathlib.Core.Path.{◌≡◌, sym, ◌∙◌}
use native.Mathlib.Omega.{arith}
use borrow.Author.Count.{below_more}
use borrow.Author.Tests.{eqb-true, not-false}
use lib.ListN.{get_or}
use Rattle.words.proofs.Filling.{fill_begin, fill_next, fill_end}
use Rattle.sets.proofs.Laws.{or_none}
use Rattle.sets.specs.Sets.{high_half}
use Rattle.halves.proofs.take_low.Goals as goal

pub loop-i-init : goal.loop-i-init
loop-i-init c = (fill_begin _ (omega arith), λ _ j l. absurd (omega arith))

pub loop-i-preserved : goal.loop-i-preserved
loop-i-preserved c = (
  fill_next c.loop-i.invariant.0 c.loop-i-test.true c.low_half.ensures,
  λ none. let parts = or_none c.loop-i.high c.high_half-high.result none in
      below_more (λ j. high_half (get_or c.args.sets.now j 0) ≡ 0) c.loop-i.i (c.loop-i.invariant.1 parts.0) (sym c.high_half-high.ensures ∙ parts.1),
)

pub returns : goal.returns
returns c =
    record {
      halves_after = fill_end c.loop-i.invariant.0 c.loop-i-test.false;
      i_value = λ e j l. c.loop-i.invariant.1 (eqb-true c.loop-i.high 0 (not-false _ e)) j (omega (arith, c.loop-i-test.false));
    }
