-- `tables::kept` meets its contract: both tables are filled and solved, and the leaving sets are joined.
use Rattle.passes.proofs.Steps.{pass_stops, kept_gives, kept_passes, kept_sets_are}
use Rattle.passes.proofs.tables.kept.Goals as goal

pub returns : goal.returns
returns c =
    let well = c.args.routine.now.well in
    let given = kept_gives well c.requires.versions c.requires.letters c.fill.ensures.gives_after in
    let passed = (kept_passes well c.requires.versions c.requires.letters c.fill.ensures.passes_after).cells in
    record {
      cells = kept_sets_are well c.requires.versions c.requires.letters given passed c.solve_sets-rounds.ensures.pass c.join.ensures;
      kept_stops = pass_stops well c.requires.edge_order given passed c.solve_sets-rounds.ensures.rounds;
    }
