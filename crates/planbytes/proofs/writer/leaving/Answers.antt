-- `writer::leaving` meets its contract: N leaves with none, any other letter with the label's version.
use mathlib.Core.Path.{refl, sym, ap, ◌∙◌}
use mathlib.Core.Bool.{not, true≢false}
use Rattle.sets.proofs.Laws.{lowest_has}
use Rattle.sets.specs.Sets.{width}
use Rattle.planbytes.proofs.writer.leaving.Goals as goal

pub returns-then-leaves : goal.returns-then-leaves
returns-then-leaves c =
    record {
      none = λ e. absurd (true≢false (sym c.if-leaves.true ∙ c.leaves.ensures ∙ ap not e));
      some = λ e. rw c.lowest.ensures (lowest_has width c.args.version c.requires c.ranges.version.fits);
    }

pub returns-else-leaves : goal.returns-else-leaves
returns-else-leaves c = record { none = λ e. refl; some = λ e. absurd (true≢false (ap not (sym e) ∙ sym c.leaves.ensures ∙ c.if-leaves.false)) }
