-- `plan_calls_counted` meets its contract: either size of tables will do.
use mathlib.Core.Path.{◌∙◌}
use native.Mathlib.Omega.{arith}
use Rattle.plan.proofs.plan_calls_counted.Goals as goal

pub plan_calls_small-requires : goal.plan_calls_small-requires
plan_calls_small-requires c =
    record {
      calls_read = c.requires.calls_read;
      firsts = c.fill_firsts-count.ensures.firsts;
      vertices_counted = c.fill_firsts-count.ensures.value;
      firsts_len = c.fill_firsts-count.auto.firsts ∙ c.requires.firsts_len;
      is_small = (omega arith, omega arith);
    }
