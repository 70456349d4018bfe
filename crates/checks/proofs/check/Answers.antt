-- `checks::check` meets its contract: 20 is answered first, then 21, by the reaching sets of all arrays.
use Rattle.labels.specs.Checks.{check21, programmer_check}
use Rattle.refusal.proofs.Checks.{fails, passes}
use Rattle.checks.proofs.Rows.{not_passed}
use Rattle.checks.proofs.check.Goals as goal

pub returns-in-Err : goal.returns-in-Err
unfolding programmer_check
returns-in-Err c =
    let f = c.in-Err.is in
    record {
      edge_order_2 = c.requires.edge_order;
      checked = record {
        answers = fails (check21 c.args.routine.now.bytes) c.check_writes-writes.ensures f;
        letters_are = not_passed f;
        reaching_are = not_passed f;
        letters_stop = not_passed f;
        reached_first = not_passed f;
        reaching_stops = not_passed f;
      };
    }

pub returns : goal.returns
unfolding programmer_check
returns c =
    record {
      edge_order_2 = c.reorder.ensures;
      checked = record {
        answers = passes c.check_writes-writes.ensures c.in_default.is c.check_ambiguous-verdict.ensures;
        letters_are = λ _. c.letters-first.ensures.letters;
        reaching_are = λ _. c.reaching-next.ensures.cells;
        letters_stop = λ _. c.letters-first.ensures.letters_stop;
        reached_first = λ _. c.reaching-next.ensures.reached_first;
        reaching_stops = λ _. c.reaching-next.ensures.reaching_stops;
      };
    }
