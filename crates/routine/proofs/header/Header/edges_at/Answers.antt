-- `edges_at` meets its contract: within the limits the product is at most 2,048.
use native.Mathlib.Omega.{arith}
use Rattle.routine.proofs.Form.{few_actions}
use Rattle.routine.proofs.header.Header.edges_at.Goals as goal

pub overflow_mul-result : goal.overflow_mul-result
overflow_mul-result c = omega (arith, few_actions c.requires)

pub overflow_add-result : goal.overflow_add-result
overflow_add-result c = omega (arith, few_actions c.requires)
