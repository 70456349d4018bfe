-- `halves::solve_high` meets its contract: what is given and what is found are the high halves.
use mathlib.Core.Path.{ap, ◌∙◌}
use lib.ListN.{length}
use Rattle.words.proofs.Tables.{table-length}
use Rattle.halves.proofs.Tables.{tables_given, solved_by}
use Rattle.halves.proofs.solve_high.Goals as goal

pub solve-rounds-requires : goal.solve-rounds-requires
solve-rounds-requires c =
    let size = ap length c.take_high.ensures ∙ table-length _ _ ∙ c.requires.sets_len in
    record {
      order = c.requires.order;
      edges_bound = c.requires.edges_bound;
      tables = tables_given c.requires.tables size;
      sets_bound = c.requires.halves_bound;
    }

pub returns : goal.returns
returns c =
    record {
      sets_after = c.put_high.ensures;
      solved = solved_by c.take_high.ensures c.solve-rounds.ensures;
    }
