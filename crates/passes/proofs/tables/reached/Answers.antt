-- `tables::reached` meets its contract: both tables are filled and solved.
use Rattle.passes.proofs.Cells.{cells_are, few_columns}
use Rattle.passes.proofs.Steps.{reached_passes, reached_sets_lem, pass_stops, reached_alone}
use Rattle.passes.proofs.tables.reached.Goals as goal

pub returns : goal.returns
returns c =
    let well = c.args.routine.now.well in
    let given = reached_alone well c.arrays.ensures c.requires.gives_len c.fill_reached.ensures.gives_after in
    let passed = reached_passes (few_columns well) c.requires.passes_len c.fill_reached.ensures.passes_after in
    record {
      reached = reached_sets_lem (few_columns well) (cells_are given) passed c.solve.ensures.pass;
      reached_stops = pass_stops well c.requires.edge_order given passed c.solve.ensures.rounds;
    }
