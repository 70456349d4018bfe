-- `tables::reaching_everywhere` meets its contract: both tables are filled and solved, and the entry has its own row in each.
use Rattle.passes.proofs.Steps.{pass_stops, reach_versions, reach_passes_lem, reaching_sets}
use Rattle.passes.proofs.tables.reaching_everywhere.Goals as goal

pub returns : goal.returns
returns c =
    let well = c.args.routine.now.well in
    let given = reach_versions well c.requires.versions c.requires.letters c.requires.all_reached c.fill_everywhere.ensures.gives_after c.enter_gives.ensures in
    let passed = (reach_passes_lem well c.requires.versions c.requires.letters c.fill_everywhere.ensures.passes_after).cells in
    record {
      cells = reaching_sets well given passed c.solve_sets-rounds.ensures.pass c.enter.ensures;
      reaching_stops = pass_stops well c.requires.edge_order given passed c.solve_sets-rounds.ensures.rounds;
    }
