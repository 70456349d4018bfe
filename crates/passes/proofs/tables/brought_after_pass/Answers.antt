-- `tables::brought_after_pass` meets its contract: the reached vertices are found, the edges are ordered anew, and both tables are filled and solved.
use Rattle.passes.proofs.Steps.{pass_stops, brought_gives_lem, brought_passes_lem, brought_sets_lem}
use Rattle.passes.proofs.tables.brought_after_pass.Goals as goal

pub returns : goal.returns
returns c =
    let vs = c.requires.versions in
    let well = c.args.routine.now.well in
    let given = brought_gives_lem well vs c.reached-reached.ensures.reached c.fill_brought.ensures.gives_after in
    let passed = (brought_passes_lem well vs c.fill_brought.ensures.passes_after).cells in
    record {
      edge_order_2 = c.reorder.ensures;
      cells = brought_sets_lem well given passed c.solve_sets-rounds.ensures.pass;
      reached_stops = c.reached-reached.ensures.reached_stops;
      brought_stops = pass_stops well c.reorder.ensures given passed c.solve_sets-rounds.ensures.rounds;
    }
