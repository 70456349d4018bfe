-- Vertices and edges stand within the longest file, and the counts of a header fit their numbers.
-- Assumes nothing.
use mathlib.Core.List.{List}
use Prim.Native.Nat.{ℕ, ◌+◌, ◌*◌, ◌≤◌, ◌<◌}
use native.Mathlib.Nat.{mul-le-mul, mul-le-mul_right}
use native.Mathlib.Omega.{arith}
use Rattle.directives.specs.declared.header.Header.{Header}
use Rattle.directives.specs.Layout.{arrays, vertices, edges, vertex_at, edge_at, end_at, longest, Counts, Limits}

-- rows of 16-bit counts
pub rows_fit : {h : Header} → Counts h → h.vertices * (12 + h.arrays) ≤ 65535 * 65547
rows_fit {h} k =
    let v : h.vertices ≤ 65535 = omega (arith, k.vertices_fit) in
    let a : 12 + h.arrays ≤ 65547 = omega (arith, k.arrays_fit) in
    mul-le-mul v a

module _ {file : List ℕ} (is : Limits file) where
  -- at most 256 rows of 20 bytes
  few_bytes : vertices file * (12 + arrays file) ≤ 5120
  few_bytes =
      let a : 12 + arrays file ≤ 20 = omega (arith, is.few_arrays) in
      mul-le-mul is.few_vertices a

  pub vertex_place : {v : ℕ} → v < vertices file → vertex_at file v + 12 + arrays file ≤ longest
  vertex_place {v} below = omega (arith, is, few_bytes, mul-le-mul_right (12 + arrays file) below)

  pub end_place : end_at file ≤ longest
  end_place = omega (arith, is, few_bytes)

  pub edge_place : {i : ℕ} → i < edges file → edge_at file i + 4 ≤ longest
  edge_place below = omega (arith, is, end_place)
