-- `rows::write_call` meets its contract: each row in the part behind what has been written.
use mathlib.Core.Path.{◌≡◌, sym, ◌∙◌}
use mathlib.Core.List.{List, ◌++◌}
use Prim.Native.Nat.{ℕ, ◌-◌, ◌*◌, ◌≤◌}
use native.Mathlib.Omega.{arith}
use lib.ListN.{length, take, drop, length-append}
use Rattle.words.proofs.Buffers.{Front, starts, lends, more}
use Rattle.calls.specs.Parts.{passing, calling, returning}
use Rattle.calls.specs.VertexRows.{part_row}
use Rattle.calls.proofs.RowBytes.{row_length}
use Rattle.calls.proofs.rows.write_call.Goals as goal
use Rattle.calls.proofs.rows.write_call.Goals.{After-arrays-m, After-write_row, After-write_row-2, Start}

-- ---- the buffer at the call, the three rows, and where the second and the third stand

abbrev old : Start → List ℕ
old s = s.args.out.now

abbrev first : Start → List ℕ
first s = part_row s.args.routine.now.bytes (passing s.args.v)

abbrev second : Start → List ℕ
second s = part_row s.args.routine.now.bytes (calling s.args.v)

abbrev third : Start → List ℕ
third s = part_row s.args.routine.now.bytes (returning s.args.v)

second_at : (c : After-arrays-m) → c.arrays-m.result ≡ length (first (goal.at.After-arrays-m c).Start)
second_at c = c.arrays-m.ensures ∙ sym (row_length c.args.routine.now.bytes (passing c.args.v))

third_at : (c : After-arrays-m) → 2 * c.arrays-m.result ≡ length (first (goal.at.After-arrays-m c).Start ++ second (goal.at.After-arrays-m c).Start)
third_at c =
    omega (
      arith,
      second_at c,
      c.arrays-m.ensures,
      row_length c.args.routine.now.bytes (calling c.args.v),
      length-append (first (goal.at.After-arrays-m c).Start) (second (goal.at.After-arrays-m c).Start),
    )

room : (c : After-arrays-m) → 3 * c.arrays-m.result ≤ length (old (goal.at.After-arrays-m c).Start)
room c = omega (arith, c.arrays-m.ensures, c.requires.file_in_bounds)

pub write_row-requires : goal.write_row-requires
write_row-requires c =
    record {
      arrivals = c.requires.arrivals;
      v_bound = c.requires.v_bound;
      file_in_bounds = omega (arith, c.requires.file_in_bounds);
    }

one : (c : After-write_row) → Front (old (goal.at.After-write_row c).Start) (first (goal.at.After-write_row c).Start) c.write_row.new.out
one c = record { is = c.write_row.ensures }

pub write_row-requires-2 : goal.write_row-requires-2
write_row-requires-2 c =
    record {
      arrivals = c.requires.arrivals;
      v_bound = c.requires.v_bound;
      file_in_bounds = lends (one (goal.at.write_row-requires-2 c).After-write_row) (second_at (goal.at.write_row-requires-2 c).After-arrays-m) (omega (arith, room (goal.at.write_row-requires-2 c).After-arrays-m, c.arrays-m.ensures));
    }

abbrev behind : After-write_row-2 → List ℕ
behind c =
    let out = c.write_row.new.out in
    let m = c.arrays-m.result in
    take m out ++ (c.write_row-2.new.out ++ drop (length out - m) (drop m out))

two : (c : After-write_row-2) → Front (old (goal.at.After-write_row-2 c).Start) (first (goal.at.After-write_row-2 c).Start ++ second (goal.at.After-write_row-2 c).Start) (behind c)
two c = more (one (goal.at.After-write_row-2 c).After-write_row) (second_at (goal.at.After-write_row-2 c).After-arrays-m) (second (goal.at.After-write_row-2 c).Start) c.write_row-2.ensures

-- ---- the third
pub slice_bounds-write_row-count-2 : goal.slice_bounds-write_row-count-2
slice_bounds-write_row-count-2 c = starts (two (goal.at.slice_bounds-write_row-count-2 c).After-write_row-2) (third_at (goal.at.slice_bounds-write_row-count-2 c).After-arrays-m) (omega (arith, room (goal.at.slice_bounds-write_row-count-2 c).After-arrays-m))

pub slice_bounds-write_row-start-2 : goal.slice_bounds-write_row-start-2
slice_bounds-write_row-start-2 c = slice_bounds-write_row-count-2 c

pub write_row-requires-3 : goal.write_row-requires-3
write_row-requires-3 c =
    record {
      arrivals = c.requires.arrivals;
      v_bound = c.requires.v_bound;
      file_in_bounds = lends (two (goal.at.write_row-requires-3 c).After-write_row-2) (third_at (goal.at.write_row-requires-3 c).After-arrays-m) (omega (arith, room (goal.at.write_row-requires-3 c).After-arrays-m, c.arrays-m.ensures));
    }

pub returns : goal.returns
returns c = (more (two (goal.at.returns c).After-write_row-2) (third_at (goal.at.returns c).After-arrays-m) (third (goal.at.returns c).Start) c.write_row-3.ensures).is
