-- `edges_at` meets its contract: a product of 16-bit counts fits.
use native.Mathlib.Omega.{arith}
use Rattle.directives.proofs.Places.{rows_fit}
use Rattle.directives.proofs.header.Header.edges_at.Goals as goal

pub overflow_mul-result : goal.overflow_mul-result
overflow_mul-result c = omega (arith, rows_fit c.requires)

pub overflow_add-result-2 : goal.overflow_add-result-2
overflow_add-result-2 c = omega (arith, rows_fit c.requires)
