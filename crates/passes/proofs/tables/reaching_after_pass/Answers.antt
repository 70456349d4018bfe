-- `tables::reaching_after_pass` meets its contract: the reached vertices are found, both tables are filled and solved, and the entry has its own row in each.
use Rattle.passes.proofs.Steps.{pass_stops, reach_gives_lem, reach_passes_lem, reaching_sets}
use Rattle.passes.proofs.tables.reaching_after_pass.Goals as goal

pub returns : goal.returns
returns c =
    let well = c.args.routine.now.well in
    let given = reach_gives_lem well c.requires.versions c.requires.letters c.reached-reached.ensures.reached c.fill.ensures.gives_after c.enter_gives.ensures in
    let passed = (reach_passes_lem well c.requires.versions c.requires.letters c.fill.ensures.passes_after).cells in
    record {
      cells = reaching_sets well given passed c.solve_sets-rounds.ensures.pass c.enter.ensures;
      reached_stops = c.reached-reached.ensures.reached_stops;
      reaching_stops = pass_stops well c.requires.edge_order given passed c.solve_sets-rounds.ensures.rounds;
    }
