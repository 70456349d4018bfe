-- `pass::solve_sets` meets its contract: what is lent of the file is the bytes of the edges, whose ends are vertices.
use Rattle.flow.proofs.Cells.{solved_pass}
use Rattle.passes.proofs.Cells.{tables_lent, solved_over}
use Rattle.labels.proofs.Rules.Proper.{ends_within_lem}
use Rattle.passes.proofs.pass.solve_sets.Goals as goal

pub solve-requires-clause-tables : goal.solve-requires-clause-tables
solve-requires-clause-tables c =
    tables_lent c.args.halves.now c.requires.halves_len c.edge_bytes.ensures (ends_within_lem c.args.routine.now.bytes c.args.routine.now.well) c.requires.gives_len c.requires.passes_len

pub returns : goal.returns
returns c =
    let h = solved_over c.args.halves.now c.requires.halves_len c.edge_bytes.ensures c.solve.ensures in
    record {
      pass = solved_pass h;
      rounds = h.counted;
    }
