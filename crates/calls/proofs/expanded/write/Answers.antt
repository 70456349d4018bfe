-- `expanded::write` meets its contract: the edges, then the rows before them, then contents and array records before these.
use mathlib.Core.Path.{◌≡◌, sym, ap, ap₂, subst, ◌∙◌}
use mathlib.Core.List.{List, ◌++◌}
use Prim.Native.Nat.{ℕ, ◌+◌, ◌-◌, ◌*◌, ◌≤◌}
use native.Mathlib.Omega.{arith}
use lib.ListN.{length, take, drop, length-append}
use Rattle.routine.specs.Layout.{arrays}
use Rattle.routine.specs.Reader.{Limits}
use Rattle.routine.specs.declared.header.Header.{Header}
use Rattle.words.proofs.Written.{wrote-length, part_from, part_length, lent_length, write_front}
use Rattle.words.specs.Tables.{rows, wrote}
use Rattle.calls.specs.Expanded.{expanded_row, expanded_edges, edges_bytes}
use Rattle.calls.specs.Interfaces.{Expandable}
use Rattle.calls.specs.Parts.{expanded_vertices}
use Rattle.calls.specs.Writing.{head_bytes}
use Rattle.calls.proofs.Bytes.{edges_size, rows_size}
use Rattle.calls.proofs.Formed.{expanded_formed}
use Rattle.calls.proofs.Written.{expanded_header, header_is, expanded_size, size_few, head_size, whole}
use Rattle.calls.proofs.expanded.write.Goals as goal
use Rattle.calls.proofs.expanded.write.Goals.{After-actions_at-at, After-write, After-write-count, Start}

-- ---- where each part stands

can : (s : Start) → Expandable s.args.routine.now.bytes
can s = record { well = s.args.routine.now.well; interfaces = s.requires.interfaces; few_edges = s.requires.file_bound; few_vertices = s.requires.file_bound_2 }

abbrev old : Start → List ℕ
old s = s.args.out.now

abbrev edges_from : After-actions_at-at → ℕ
edges_from c = c.actions_at-at.result + c.args.vertices * c.arrays-arrays.result

rows_place : (c : After-actions_at-at) → c.actions_at-at.result ≡ 18 + 4 * arrays c.args.routine.now.bytes
rows_place c = omega (arith, c.actions_at-at.ensures, c.arrays-arrays.ensures)

row_bytes_lem : (c : After-actions_at-at) → c.args.vertices * c.arrays-arrays.result ≡ expanded_vertices c.args.routine.now.bytes * arrays c.args.routine.now.bytes
row_bytes_lem c = ap₂ ◌*◌ c.requires.vertices_value c.arrays-arrays.ensures

room : (c : After-actions_at-at) → edges_from c + 4 * length (expanded_edges c.args.routine.now.bytes) ≤ length (old (goal.at.After-actions_at-at c).Start)
room c = omega (arith, rows_place c, row_bytes_lem c, expanded_size (can (goal.at.After-actions_at-at c).Start), c.requires.file_in_bounds)

small : (c : After-actions_at-at) → edges_from c ≤ 6866
small c = omega (arith, rows_place c, row_bytes_lem c, size_few (can (goal.at.After-actions_at-at c).Start))

pub overflow_mul-edges_at : goal.overflow_mul-edges_at
overflow_mul-edges_at c = record { fits = omega (arith, small (goal.at.overflow_mul-edges_at c).After-actions_at-at) }

pub overflow_add-edges_at : goal.overflow_add-edges_at
overflow_add-edges_at c = record { fits = omega (arith, small (goal.at.overflow_add-edges_at c).After-actions_at-at) }

-- ---- the edges
pub slice_bounds-write-count : goal.slice_bounds-write-count
slice_bounds-write-count c = omega (arith, room (goal.at.slice_bounds-write-count c).After-actions_at-at)

pub slice_bounds-write-start : goal.slice_bounds-write-start
slice_bounds-write-start c = slice_bounds-write-count c

pub write-count-requires : goal.write-count-requires
write-count-requires c =
    record {
      firsts = c.requires.firsts;
      file_bound = c.requires.file_bound_2;
      file_in_bounds = omega (arith, room (goal.at.write-count-requires c).After-actions_at-at, part_length (old (goal.at.write-count-requires c).Start) (edges_from (goal.at.write-count-requires c).After-actions_at-at));
    }

abbrev with_edges : After-write-count → List ℕ
with_edges c =
    let at = edges_from (goal.at.After-write-count c).After-actions_at-at in
    take at (old (goal.at.After-write-count c).Start) ++ (c.write-count.new.out ++ drop (length (old (goal.at.After-write-count c).Start) - at) (drop at (old (goal.at.After-write-count c).Start)))

edges-length : (c : After-write-count) → length (with_edges c) ≡ length (old (goal.at.After-write-count c).Start)
edges-length c =
    let es = expanded_edges c.args.routine.now.bytes in
    lent_length (old (goal.at.After-write-count c).Start) c.write-count.new.out (edges_from (goal.at.After-write-count c).After-actions_at-at) (omega (arith, room (goal.at.After-write-count c).After-actions_at-at))
    (wrote-length (part_from (old (goal.at.After-write-count c).Start) (edges_from (goal.at.After-write-count c).After-actions_at-at)) (edges_bytes es) c.write-count.ensures.out_after (omega (arith, edges_size es, room (goal.at.After-write-count c).After-actions_at-at, part_length (old (goal.at.After-write-count c).Start) (edges_from (goal.at.After-write-count c).After-actions_at-at))))

abbrev counts : ℕ → ℕ → ℕ → Header
counts a v e = record { arrays = a; vertices = v; edges = e }

header : (c : After-write-count) →
    counts c.arrays-arrays.result c.args.vertices c.write-count.result ≡ expanded_header c.args.routine.now.bytes
header c =
    ap (λ (a : ℕ). counts a c.args.vertices c.write-count.result) c.arrays-arrays.ensures
    ∙ ap₂ (counts (arrays c.args.routine.now.bytes)) c.requires.vertices_value c.write-count.ensures.value

-- ---- the rows
pub slice_bounds-write-count-2 : goal.slice_bounds-write-count-2
slice_bounds-write-count-2 c = omega (arith, room (goal.at.slice_bounds-write-count-2 c).After-actions_at-at, edges-length (goal.at.slice_bounds-write-count-2 c).After-write-count)

pub slice_bounds-write-start-2 : goal.slice_bounds-write-start-2
slice_bounds-write-start-2 c = slice_bounds-write-count-2 c

pub write-requires : goal.write-requires
write-requires c =
    record {
      arrivals = c.requires.arrivals;
      firsts = c.requires.firsts;
      file_bound = c.requires.file_bound_2;
      file_in_bounds = omega (arith, room (goal.at.write-requires c).After-actions_at-at, row_bytes_lem (goal.at.write-requires c).After-actions_at-at, edges-length (goal.at.write-requires c).After-write-count, part_length (with_edges (goal.at.write-requires c).After-write-count) c.actions_at-at.result);
    }

abbrev with_rows : After-write → List ℕ
with_rows c =
    let out = with_edges (goal.at.After-write c).After-write-count in
    let at = c.actions_at-at.result in
    take at out ++ (c.write.new.out ++ drop (length out - at) (drop at out))

rows-length : (c : After-write) → length (with_rows c) ≡ length (old (goal.at.After-write c).Start)
rows-length c =
    let file = c.args.routine.now.bytes in
    let here = part_length (with_edges (goal.at.After-write c).After-write-count) c.actions_at-at.result in
    lent_length (with_edges (goal.at.After-write c).After-write-count) c.write.new.out c.actions_at-at.result (omega (arith, room (goal.at.After-write c).After-actions_at-at, edges-length (goal.at.After-write c).After-write-count))
    (wrote-length (part_from (with_edges (goal.at.After-write c).After-write-count) c.actions_at-at.result) (rows (expanded_row file) (expanded_vertices file)) c.write.ensures
    (omega (arith, rows_size file c.args.routine.now.well.laid, row_bytes_lem (goal.at.After-write c).After-actions_at-at, room (goal.at.After-write c).After-actions_at-at, edges-length (goal.at.After-write c).After-write-count, here)))
    ∙ edges-length (goal.at.After-write c).After-write-count

-- ---- contents and array records
pub write_head-requires : goal.write_head-requires
write_head-requires c =
    record {
      limits = subst Limits (sym (header (goal.at.write_head-requires c).After-write-count ∙ header_is (can (goal.at.write_head-requires c).Start))) (expanded_formed c.args.routine.now.bytes (can (goal.at.write_head-requires c).Start)).laid.limits;
      arrays_same = c.arrays-arrays.ensures;
      in_bounds = omega (arith, rows-length (goal.at.write_head-requires c).After-write, room (goal.at.write_head-requires c).After-actions_at-at, rows_place (goal.at.write_head-requires c).After-actions_at-at, c.arrays-arrays.ensures);
    }

pub returns : goal.returns
returns c =
    let file = c.args.routine.now.bytes in
    let front = head_bytes file (expanded_header file) in
    let middle = rows (expanded_row file) (expanded_vertices file) in
    let at : c.actions_at-at.result ≡ length front = rows_place (goal.at.returns c).After-actions_at-at ∙ sym (head_size (can (goal.at.returns c).Start)) in
    let edges_at_lem : edges_from (goal.at.returns c).After-actions_at-at ≡ length (front ++ middle) = omega (arith, at, row_bytes_lem (goal.at.returns c).After-actions_at-at, length-append front middle, rows_size file c.args.routine.now.well.laid) in
    record {
      value = header (goal.at.returns c).After-write-count ∙ header_is (can (goal.at.returns c).Start);
      out_after = c.write_head.ensures
          ∙ ap (λ (h : Header). wrote (with_rows (goal.at.returns c).After-write) (head_bytes file h)) (header (goal.at.returns c).After-write-count)
          ∙ write_front (with_edges (goal.at.returns c).After-write-count) front middle c.write.new.out c.actions_at-at.result at (omega (arith, room (goal.at.returns c).After-actions_at-at, edges-length (goal.at.returns c).After-write-count)) c.write.ensures
          ∙ write_front (old (goal.at.returns c).Start) (front ++ middle) (edges_bytes (expanded_edges file)) c.write-count.new.out (edges_from (goal.at.returns c).After-actions_at-at) edges_at_lem (omega (arith, room (goal.at.returns c).After-actions_at-at)) c.write-count.ensures.out_after
          ∙ ap (wrote (old (goal.at.returns c).Start)) (whole (can (goal.at.returns c).Start));
    }
