-- `number` meets its contract: each table from those before it, and then the versions.
use mathlib.Core.Path.{◌∙◌}
use Rattle.convert.proofs.number.Goals as goal

pub order-requires : goal.order-requires
order-requires c =
    record {
      order_len = c.requires.order_len;
    }

pub solve-requires : goal.solve-requires
solve-requires c =
    record {
      edge_order = c.order.ensures;
      reached_len = c.requires.reached_len;
      gives_len = c.requires.gives_len;
      passes_len = c.requires.passes_len;
    }

pub solve-requires-2 : goal.solve-requires-2
solve-requires-2 c =
    record {
      edge_order = c.order.ensures;
      reached = c.solve.ensures.reached;
      aligned_len = c.requires.aligned_len;
      gives_len = c.solve.auto.gives ∙ c.requires.gives_len;
      passes_len = c.solve.auto.passes ∙ c.requires.passes_len;
    }

pub solve-requires-3 : goal.solve-requires-3
solve-requires-3 c =
    record {
      edge_order = c.order.ensures;
      reached = c.solve.ensures.reached;
      spreads_len = c.requires.spreads_len;
      sets_len = c.requires.given_len;
      gives_len = c.solve-2.auto.gives ∙ c.solve.auto.gives ∙ c.requires.gives_len;
      passes_len = c.solve-2.auto.passes ∙ c.solve.auto.passes ∙ c.requires.passes_len;
      halves_len = c.requires.halves_len;
    }

pub check-requires : goal.check-requires
check-requires c =
    record {
      alignments = c.solve-2.ensures.alignments;
      spreads = c.solve-3.ensures;
      given_len = c.solve-3.auto.sets ∙ c.requires.given_len;
      counts_len = c.requires.counts_len;
    }

pub shape_of-order : goal.shape_of-order
shape_of-order c = c.order.auto.order

pub shape_of-given : goal.shape_of-given
shape_of-given c = c.check.auto.given ∙ c.solve-3.auto.sets

pub shape_of-counts : goal.shape_of-counts
shape_of-counts c = c.check.auto.counts

pub shape_of-reached : goal.shape_of-reached
shape_of-reached c = c.solve.auto.reached

pub shape_of-aligned : goal.shape_of-aligned
shape_of-aligned c = c.solve-2.auto.aligned

pub shape_of-spreads : goal.shape_of-spreads
shape_of-spreads c = c.solve-3.auto.spreads

pub shape_of-gives : goal.shape_of-gives
shape_of-gives c = c.solve-3.auto.gives ∙ c.solve-2.auto.gives ∙ c.solve.auto.gives

pub shape_of-passes : goal.shape_of-passes
shape_of-passes c = c.solve-3.auto.passes ∙ c.solve-2.auto.passes ∙ c.solve.auto.passes

pub shape_of-halves : goal.shape_of-halves
shape_of-halves c = c.solve-3.auto.halves

pub returns : goal.returns
returns c =
    record {
      edge_order = c.order.ensures;
      value = c.check.ensures.value;
      all_numbered = c.check.ensures.all_numbered;
    }
