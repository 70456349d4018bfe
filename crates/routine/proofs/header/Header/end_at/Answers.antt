-- `end_at` meets its contract: within the limits the edges start at 2,098 at most, and there are at most 1,192.
use native.Mathlib.Omega.{arith}
use Rattle.routine.proofs.Form.{few_actions}
use Rattle.routine.proofs.header.Header.end_at.Goals as goal

pub overflow_mul-result : goal.overflow_mul-result
overflow_mul-result c = omega (arith, c.requires.few_edges)

pub overflow_add-result : goal.overflow_add-result
overflow_add-result c = omega (arith, few_actions c.requires, c.requires.few_edges)
