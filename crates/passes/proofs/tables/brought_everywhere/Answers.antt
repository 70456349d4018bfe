-- `tables::brought_everywhere` meets its contract: the table of versions is what is given.
use Rattle.passes.proofs.Steps.{pass_stops, brought_versions, brought_passes_lem, brought_sets_lem}
use Rattle.passes.proofs.tables.brought_everywhere.Goals as goal

pub returns : goal.returns
returns c =
    let vs = c.requires.versions in
    let well = c.args.routine.now.well in
    let given = brought_versions well vs c.requires.all_reached c.fill_brought_everywhere.ensures.gives_after in
    let passed = (brought_passes_lem well vs c.fill_brought_everywhere.ensures.passes_after).cells in
    record {
      cells = brought_sets_lem well given passed c.solve_sets.ensures.pass;
      brought_stops = pass_stops well c.requires.edge_order given passed c.solve_sets.ensures.rounds;
    }
