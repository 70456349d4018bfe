-- `tables::letters` meets its contract: the table is filled and solved, the letters are written, and those of the exit put in their place.
use Rattle.passes.proofs.Steps.{pass_stops, letter_passes, letters_are}
use Rattle.passes.proofs.tables.letters.Goals as goal

pub returns : goal.returns
returns c =
    let well = c.args.routine.now.well in
    let passed = letter_passes well c.requires.use_gives c.fill.ensures in
    record {
      letters = letters_are well c.requires.use_gives passed c.solve-rounds.ensures.pass c.write.ensures c.leave.ensures;
      letters_stop = pass_stops well c.requires.edge_order c.requires.use_gives passed c.solve-rounds.ensures.rounds;
    }
