-- `run_calls_counted` meets its contract: either size of tables will do.
use native.Mathlib.Omega.{arith}
use Rattle.run.proofs.run_calls_counted.Goals as goal

pub run_calls_small-requires : goal.run_calls_small-requires
run_calls_small-requires c =
    record {
      calls_read = c.requires.calls_read;
      firsts = c.fill_firsts-count.ensures.firsts;
      vertices_counted = c.fill_firsts-count.ensures.value;
      is_small = (omega arith, omega arith);
    }
