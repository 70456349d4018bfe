-- The bytes of the edges of a directive file that 40 passes: how many edges they are.
-- Assumes nothing.
use mathlib.Core.Path.{◌≡◌}
use Prim.Native.Nat.{◌≤◌}
use native.Mathlib.Omega.{arith}
use Rattle.flow.specs.Paths.{edge_count}
use Rattle.directives.specs.Layout.{edges, edge_bytes}
use Rattle.directives.specs.Read.{ReadFile}
use Rattle.mappings.proofs.Formed.{limits, edges_size}

module _ (d : ReadFile) where
  pub edge_count_lem : edge_count (edge_bytes d.bytes) ≡ edges d.bytes
  edge_count_lem = omega (arith, edges_size d.bytes d.passed)

  -- at most 1,024 edges
  pub few_edges : edge_count (edge_bytes d.bytes) ≤ 1024
  few_edges = omega (arith, edge_count_lem, (limits d.bytes d.passed).few_edges)
