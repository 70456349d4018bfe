-- `prepare` meets its contract: the order and the tables of events are made, and 20 and 21 are answered by them.
use Rattle.checks.proofs.prepare.Goals as goal

pub returns : goal.returns
returns c =
    record {
      edge_order = c.check.ensures.edge_order_2;
      versions = c.tabulate.ensures.versions;
      checked = c.check.ensures.checked;
    }
