-- `count_with` meets its contract: 20 and 21 with the rounds of their passes, and where both pass the kept sets.
use mathlib.Core.Path.{◌∙◌}
use Rattle.rounds.proofs.Ways.{counted_none}
use Rattle.rounds.proofs.count_with.Goals as goal

pub returns-in-Err : goal.returns-in-Err
returns-in-Err c = counted_none c.prepare-checked.ensures.checked.answers c.in-Err.is

pub kept-last-requires : goal.kept-last-requires
kept-last-requires c =
    record {
      edge_order = c.prepare-checked.ensures.edge_order;
      versions = c.prepare-checked.ensures.versions;
      letters = c.prepare-checked.ensures.checked.letters_are c.in_default.is;
      sets_len = c.prepare-checked.auto.reaching ∙ c.requires.reaching_len;
      gives_len = c.prepare-checked.auto.gives ∙ c.requires.gives_len;
      passes_len = c.prepare-checked.auto.passes ∙ c.requires.passes_len;
      halves_len = c.prepare-checked.auto.halves ∙ c.requires.halves_len;
    }
