-- `writer::write` meets its contract: contents, then records, rows and edges, each in the part behind what has been written.
use mathlib.Core.Path.{◌≡◌, refl, ap, ◌∙◌}
use mathlib.Core.List.{List, ◌++◌}
use Prim.Native.Nat.{ℕ, ◌+◌, ◌*◌, ◌≤◌}
use native.Mathlib.Omega.{arith}
use lib.ListN.{length, length-append}
use Rattle.directives.specs.Layout.{arrays, vertices, edges, edge_bytes}
use Rattle.mappings.proofs.Bytes.{records_size, actions_size}
use Rattle.mappings.specs.Computed.{given_to}
use Rattle.mappings.specs.Converted.{array_bytes, row_bytes, head_bytes}
use Rattle.words.proofs.Buffers.{Front, starts, lends, more}
use Rattle.words.specs.Tables.{rows, wrote}
use Rattle.converted.proofs.Parts.{Counted, rows_place, edges_place, put, counted, fits, size_is, whole}
use Rattle.converted.proofs.writer.write.Goals as goal
use Rattle.converted.proofs.writer.write.Goals.{After-edges_at-edges_at, After-header_of-r, After-write_arrays, After-write_head, After-write_rows, Start}

file_counts : (c : After-header_of-r) → Counted c.args.directives.now.bytes c.header_of-r.result
file_counts c = counted c.args.directives.now c.header_of-r.ensures

pub actions_at-rows_at-requires : goal.actions_at-rows_at-requires
actions_at-rows_at-requires c = (file_counts c).limits

pub edges_at-edges_at-requires : goal.edges_at-edges_at-requires
edges_at-edges_at-requires c = (file_counts (goal.at.edges_at-edges_at-requires c).After-header_of-r).limits

abbrev old : Start → List ℕ
old s = s.args.out.now

abbrev head : Start → List ℕ
head s = let file = s.args.directives.now.bytes in head_bytes file (given_to file)

abbrev records : Start → List ℕ
records s = let file = s.args.directives.now.bytes in rows (array_bytes file (given_to file)) (arrays file)

abbrev actions : Start → List ℕ
actions s = let file = s.args.directives.now.bytes in rows (row_bytes file (given_to file)) (vertices file)

rows_at : (c : After-edges_at-edges_at) → c.actions_at-rows_at.result ≡ length (head (goal.at.After-edges_at-edges_at c).Start ++ records (goal.at.After-edges_at-edges_at c).Start)
rows_at c =
    let file = c.args.directives.now.bytes in
    omega (arith, c.actions_at-rows_at.ensures, rows_place (file_counts (goal.at.After-edges_at-edges_at c).After-header_of-r), length-append (head (goal.at.After-edges_at-edges_at c).Start) (records (goal.at.After-edges_at-edges_at c).Start), records_size file (given_to file) (arrays file))

edges_at_lem : (c : After-edges_at-edges_at) → c.edges_at-edges_at.result ≡ length ((head (goal.at.After-edges_at-edges_at c).Start ++ records (goal.at.After-edges_at-edges_at c).Start) ++ actions (goal.at.After-edges_at-edges_at c).Start)
edges_at_lem c =
    let file = c.args.directives.now.bytes in
    omega (
      arith,
      c.edges_at-edges_at.ensures,
      edges_place (file_counts (goal.at.After-edges_at-edges_at c).After-header_of-r),
      length-append (head (goal.at.After-edges_at-edges_at c).Start ++ records (goal.at.After-edges_at-edges_at c).Start) (actions (goal.at.After-edges_at-edges_at c).Start),
      length-append (head (goal.at.After-edges_at-edges_at c).Start) (records (goal.at.After-edges_at-edges_at c).Start),
      records_size file (given_to file) (arrays file),
      actions_size file (given_to file) (vertices file),
    )

-- what is to stand from each of them on lies in the buffer
place_fits : (c : After-edges_at-edges_at) → let file = c.args.directives.now.bytes in
    (c.actions_at-rows_at.result + vertices file * arrays file ≤ length (old (goal.at.After-edges_at-edges_at c).Start)) × (c.edges_at-edges_at.result + 4 * edges file ≤ length (old (goal.at.After-edges_at-edges_at c).Start))
place_fits c =
    let f = file_counts (goal.at.After-edges_at-edges_at c).After-header_of-r in
    omega (arith, c.actions_at-rows_at.ensures, rows_place f, c.edges_at-edges_at.ensures, edges_place f, fits c.args.directives.now, c.requires.in_bounds)

one : (c : After-write_head) → Front (old (goal.at.After-write_head c).Start) (head (goal.at.After-write_head c).Start) c.write_head.new.out
one c = record { is = c.write_head.ensures }

pub write_arrays-requires : goal.write_arrays-requires
write_arrays-requires c =
    record {
      version_counts = c.requires.version_counts;
      file_in_bounds = lends (one (goal.at.write_arrays-requires c).After-write_head) refl (omega (arith, fits c.args.directives.now, c.requires.in_bounds));
    }

abbrev with_records : After-write_arrays → List ℕ
with_records c = put 18 c.write_head.new.out c.write_arrays.new.out

two : (c : After-write_arrays) → Front (old (goal.at.After-write_arrays c).Start) (head (goal.at.After-write_arrays c).Start ++ records (goal.at.After-write_arrays c).Start) (with_records c)
two c = more (one (goal.at.After-write_arrays c).After-write_head) refl (records (goal.at.After-write_arrays c).Start) c.write_arrays.ensures

-- ---- rows
pub slice_bounds-write_rows-count : goal.slice_bounds-write_rows-count
slice_bounds-write_rows-count c = starts (two (goal.at.slice_bounds-write_rows-count c).After-write_arrays) (rows_at (goal.at.slice_bounds-write_rows-count c).After-edges_at-edges_at) (omega (arith, place_fits (goal.at.slice_bounds-write_rows-count c).After-edges_at-edges_at))

pub slice_bounds-write_rows-start : goal.slice_bounds-write_rows-start
slice_bounds-write_rows-start c = slice_bounds-write_rows-count c

pub write_rows-requires : goal.write_rows-requires
write_rows-requires c =
    record {
      single = c.requires.single;
      file_in_bounds = lends (two (goal.at.write_rows-requires c).After-write_arrays) (rows_at (goal.at.write_rows-requires c).After-edges_at-edges_at) (omega (arith, place_fits (goal.at.write_rows-requires c).After-edges_at-edges_at));
    }

abbrev with_rows : After-write_rows → List ℕ
with_rows c = put c.actions_at-rows_at.result (with_records (goal.at.After-write_rows c).After-write_arrays) c.write_rows.new.out

three : (c : After-write_rows) → Front (old (goal.at.After-write_rows c).Start) ((head (goal.at.After-write_rows c).Start ++ records (goal.at.After-write_rows c).Start) ++ actions (goal.at.After-write_rows c).Start) (with_rows c)
three c =
    more (two (goal.at.After-write_rows c).After-write_arrays) (rows_at (goal.at.After-write_rows c).After-edges_at-edges_at) (actions (goal.at.After-write_rows c).Start) c.write_rows.ensures

-- ---- edges
pub slice_bounds-write_edges-count : goal.slice_bounds-write_edges-count
slice_bounds-write_edges-count c = starts (three (goal.at.slice_bounds-write_edges-count c).After-write_rows) (edges_at_lem (goal.at.slice_bounds-write_edges-count c).After-edges_at-edges_at) (omega (arith, place_fits (goal.at.slice_bounds-write_edges-count c).After-edges_at-edges_at))

pub slice_bounds-write_edges-start : goal.slice_bounds-write_edges-start
slice_bounds-write_edges-start c = slice_bounds-write_edges-count c

pub write_edges-requires : goal.write_edges-requires
write_edges-requires c =
    record {
      file_in_bounds = lends (three (goal.at.write_edges-requires c).After-write_rows) (edges_at_lem (goal.at.write_edges-requires c).After-edges_at-edges_at) (omega (arith, place_fits (goal.at.write_edges-requires c).After-edges_at-edges_at));
    }

pub end_at-requires : goal.end_at-requires
end_at-requires c = (file_counts (goal.at.end_at-requires c).After-header_of-r).limits

pub returns : goal.returns
returns c =
    let file = c.args.directives.now.bytes in
    record {
      value = c.end_at.ensures ∙ size_is c.args.directives.now c.header_of-r.ensures;
      out_after = (more (three (goal.at.returns c).After-write_rows) (edges_at_lem (goal.at.returns c).After-edges_at-edges_at) (edge_bytes file) c.write_edges.ensures).is ∙ ap (wrote (old (goal.at.returns c).Start)) (whole file);
    }
