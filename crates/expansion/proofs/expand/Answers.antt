-- `expand` meets its contract: the table of first vertices is long enough for any file.
use native.Mathlib.Omega.{arith}
use Rattle.expansion.proofs.expand.Goals as goal

pub expand_counted-requires : goal.expand_counted-requires
expand_counted-requires c =
    record {
      interfaces = c.requires.interfaces;
      few_edges = c.requires.few_edges;
      firsts_room = omega (arith, c.args.routine.now.well.laid.limits.few_vertices);
      out_len = c.requires.out_len;
    }
