-- `tables::brought` meets its contract, either way.
use mathlib.Core.Path.{refl}
use mathlib.Core.Logic.{inl, inr}
use Rattle.passes.proofs.tables.brought.Goals as goal

pub returns-then-everywhere : goal.returns-then-everywhere
returns-then-everywhere c =
    record {
      edge_order_2 = c.requires.edge_order;
      cells = c.brought_everywhere-rounds.ensures.cells;
      reached_first = inr (refl, c.all-everywhere.ensures c.if-everywhere.true);
      brought_stops = c.brought_everywhere-rounds.ensures.brought_stops;
    }

pub returns : goal.returns
returns c =
    record {
      edge_order_2 = c.brought_after_pass.ensures.edge_order_2;
      cells = c.brought_after_pass.ensures.cells;
      reached_first = inl c.brought_after_pass.ensures.reached_stops;
      brought_stops = c.brought_after_pass.ensures.brought_stops;
    }
