-- What check 40 leaves of each body: that its rows pass, and that the file ends behind the last edge.
-- Assumes nothing.
use Rattle.std.specs.Prelude.{Ok}
use mathlib.Core.Path.{◌≡◌}
use mathlib.Core.List.{List, [], ◌++◌}
use Prim.Native.Nat.{ℕ, ◌<◌}
use native.Mathlib.Omega.{arith}
use borrow.Author.Tests.{leb-true}
use lib.Dec.{leb}
use lib.ListN.{length}
use Rattle.words.specs.Tables.{rows}
use Rattle.directives.proofs.Fields.{passed_front, passed_back, passed_row, passed_right_here, passed_within}
use Rattle.directives.specs.Fields.{Field, in_order, head_fields, template_fields, array_fields, vertex_fields, edge_fields, end_fields, body_fields, fields, check40}
use Rattle.directives.specs.Layout.{templates, arrays, vertices, edges, end_at}

module _ (file : List ℕ) (passed : check40 file ≡ Ok tt) where
  abbrev from_edges : List Field
  from_edges = rows (edge_fields file) (edges file) ++ end_fields file

  abbrev from_vertices : List Field
  from_vertices = rows (vertex_fields file) (vertices file) ++ from_edges

  abbrev from_arrays : List Field
  from_arrays = rows (array_fields file) (arrays file) ++ from_vertices

  arrays_passed : in_order file from_arrays ≡ Ok tt
  unfolding check40 fields
  arrays_passed = passed_back file (rows (template_fields file) (templates file)) from_arrays (passed_back file (head_fields file) (body_fields file) passed)

  vertices_passed : in_order file from_vertices ≡ Ok tt
  vertices_passed = passed_back file (rows (array_fields file) (arrays file)) from_vertices arrays_passed

  edges_passed : in_order file from_edges ≡ Ok tt
  edges_passed = passed_back file (rows (vertex_fields file) (vertices file)) from_edges vertices_passed

  pub array_passed : (a : ℕ) → a < arrays file → in_order file (array_fields file a) ≡ Ok tt
  array_passed = passed_row file (array_fields file) (arrays file) (passed_front file (rows (array_fields file) (arrays file)) from_vertices arrays_passed)

  pub vertex_passed : (v : ℕ) → v < vertices file → in_order file (vertex_fields file v) ≡ Ok tt
  vertex_passed = passed_row file (vertex_fields file) (vertices file) (passed_front file (rows (vertex_fields file) (vertices file)) from_edges vertices_passed)

  pub edge_passed : (i : ℕ) → i < edges file → in_order file (edge_fields file i) ≡ Ok tt
  edge_passed = passed_row file (edge_fields file) (edges file) (passed_front file (rows (edge_fields file) (edges file)) (end_fields file) edges_passed)

  pub ends_there : length file ≡ end_at file
  ends_there =
      let f : Field = record { at = end_at file; wide = 0; right = leb (length file) (end_at file) } in
      let at-end = passed_back file (rows (edge_fields file) (edges file)) (end_fields file) edges_passed in
      let low = leb-true (length file) (end_at file) (passed_right_here file f [] at-end) in
      let high = passed_within file f [] at-end in
      omega arith
