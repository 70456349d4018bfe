-- `tables::reaching` meets its contract, either way.
use mathlib.Core.Path.{refl}
use mathlib.Core.Logic.{inl, inr}
use Rattle.passes.proofs.tables.reaching.Goals as goal

pub returns-then-everywhere : goal.returns-then-everywhere
returns-then-everywhere c =
    record {
      cells = c.reaching_everywhere-rounds.ensures.cells;
      reached_first = inr (refl, c.all-everywhere.ensures c.if-everywhere.true);
      reaching_stops = c.reaching_everywhere-rounds.ensures.reaching_stops;
    }

pub returns : goal.returns
returns c =
    record {
      cells = c.reaching_after_pass.ensures.cells;
      reached_first = inl c.reaching_after_pass.ensures.reached_stops;
      reaching_stops = c.reaching_after_pass.ensures.reaching_stops;
    }
