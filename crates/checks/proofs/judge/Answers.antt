-- `judge` meets its contract: the edges by number and the tables of events are made, 20 is answered first, then 21, by what paths bring.
use Rattle.labels.specs.Checks.{check21, programmer_check}
use Rattle.refusal.proofs.Checks.{fails, passes}
use Rattle.checks.proofs.Rows.{not_passed, brought_there}
use Rattle.checks.proofs.judge.Goals as goal

pub returns-in-Err : goal.returns-in-Err
unfolding programmer_check
returns-in-Err c =
    let f = c.in-Err.is in
    record {
      answers = fails (check21 c.args.routine.now.bytes) c.check_writes-writes.ensures f;
      brought_are = not_passed f;
      reached_first = not_passed f;
      brought_stops = not_passed f;
    }

pub check_ambiguous-verdict-requires-clause-at_references : goal.check_ambiguous-verdict-requires-clause-at_references
check_ambiguous-verdict-requires-clause-at_references c = brought_there c.args.routine.now.well c.brought-rounds.ensures.cells

pub returns : goal.returns
unfolding programmer_check
returns c =
    record {
      answers = passes c.check_writes-writes.ensures c.in_default.is c.check_ambiguous-verdict.ensures;
      brought_are = λ _. c.brought-rounds.ensures.cells;
      reached_first = λ _. c.brought-rounds.ensures.reached_first;
      brought_stops = λ _. c.brought-rounds.ensures.brought_stops;
    }
