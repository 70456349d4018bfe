-- `end_at` meets its contract: a product of 16-bit counts fits.
use native.Mathlib.Omega.{arith}
use Rattle.directives.proofs.Places.{rows_fit}
use Rattle.directives.proofs.header.Header.end_at.Goals as goal

pub overflow_add-result : goal.overflow_add-result
overflow_add-result c = omega (arith, rows_fit c.requires)
