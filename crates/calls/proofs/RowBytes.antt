-- The rows of the expanded routine, by the vertices of the file; and the version to which a call's last row remaps.
-- Assumes nothing.
use mathlib.Core.Path.{◌≡◌, sym, ap, ap₂, ◌∙◌}
use mathlib.Core.Bool.{true, false}
use mathlib.Core.List.{List, ◌++◌, append_assoc}
use Prim.Native.Nat.{ℕ, zero, suc, ◌+◌, ◌*◌, ◌≤◌, ◌<◌}
use native.Mathlib.Nat.{mul_comm}
use native.Mathlib.Omega.{arith}
use borrow.Author.Tests.{eq-eqb, ne_eqb}
use lib.Count.{count_trailing_zeros}
use lib.ListN.{length, length-append}
use Rattle.routine.specs.Arrays.{initial}
use Rattle.routine.specs.Layout.{arrays, vertices}
use Rattle.sets.specs.Sets.{width}
use Rattle.words.specs.Tables.{rows}
use Rattle.words.proofs.Tables.{rows_more, rows-length, table-length}
use Rattle.words.proofs.Tests.{by_test}
use Rattle.calls.specs.Calls.{is_call_row}
use Rattle.calls.specs.Expanded.{expanded_byte, expanded_row}
use Rattle.calls.specs.Parts.{Part, plain, passing, calling, returning, expanded_vertices, part_at, first_vertex_of}
use Rattle.calls.specs.Referring.{arriving, return_version}
use Rattle.calls.specs.VertexRows.{part_row, call_rows, vertex_rows}
use Rattle.calls.proofs.Parts.{first_zero, first_next, call_last, plain_last, size_is, plain_at, passing_at, calling_at, returning_at}

-- ---- the version that the source names before the call, from the set that arrives

module _ (file : List ℕ) (a v : ℕ) {arrived : ℕ} (is : arrived ≡ arriving file a v) where
  pub none_arrives : arrived ≡ 0 → initial file a ≡ return_version file a v
  unfolding return_version
  none_arrives none = sym (rw (eq-eqb (arriving file a v) 0 (sym is ∙ none)))

  pub one_arrives : (arrived ≡ 0 → ⊥) → count_trailing_zeros width arrived ≡ return_version file a v
  unfolding return_version
  one_arrives some = ap (count_trailing_zeros width) is ∙ sym (rw (ne_eqb (arriving file a v) 0 (λ e. some (is ∙ e))))

-- ---- rows

-- three rows more
rows_three : (row : ℕ → List ℕ) (k : ℕ) → rows row (k + 3) ≡ rows row k ++ ((row k ++ row (k + 1)) ++ row (k + 2))
rows_three row k =
    let two : k + 1 + 1 ≡ k + 2 = omega arith in
    let three : k + 2 + 1 ≡ k + 3 = omega arith in
    sym (ap (rows row) three) ∙ sym (rows_more row (k + 2))
    ∙ ap (λ (l : List ℕ). l ++ row (k + 2)) (sym (ap (rows row) two) ∙ sym (rows_more row (k + 1)) ∙ ap (λ (l : List ℕ). l ++ row (k + 1)) (sym (rows_more row k)))
    ∙ simp append_assoc

module _ (file : List ℕ) where
  pub row_length : (p : Part) → length (part_row file p) ≡ arrays file
  unfolding part_row
  row_length p = table-length (λ a. expanded_byte file a p) (arrays file)

  pub call_length : (v : ℕ) → length (call_rows file v) ≡ 3 * arrays file
  call_length v =
      omega (
        arith,
        length-append (part_row file (passing v) ++ part_row file (calling v)) (part_row file (returning v)),
        length-append (part_row file (passing v)) (part_row file (calling v)),
        row_length (passing v),
        row_length (calling v),
        row_length (returning v),
      )

  module _ (v : ℕ) where
    pub call_rows_are : is_call_row file v ≡ true → vertex_rows file v ≡ call_rows file v
    unfolding vertex_rows
    call_rows_are call = rw call

    pub plain_row : is_call_row file v ≡ false → vertex_rows file v ≡ part_row file (plain v)
    unfolding vertex_rows
    plain_row row = rw row

  -- a row of the expanded routine is that of the part there
  row_at : (x : ℕ) {p : Part} → part_at file x ≡ p → expanded_row file x ≡ part_row file p
  unfolding part_row
  row_at x e = ap (part_row file) e

  -- with those of one vertex more
  next_vertex : (v : ℕ) → v < vertices file → rows (expanded_row file) (first_vertex_of file (suc v)) ≡ rows (expanded_row file) (first_vertex_of file v) ++ vertex_rows file v
  next_vertex v in_v =
      let x = first_vertex_of file v in
      let before = rows (expanded_row file) x in
      by_test (is_call_row file v)
      (λ call.
      let three : first_vertex_of file (suc v) ≡ x + 3 = omega (arith, first_next file v, call_last file v call) in
      let passed = row_at x (passing_at file in_v call) in
      let called = row_at (x + 1) (calling_at file in_v call) in
      let returned = row_at (x + 2) (returning_at file in_v call) in
      ap (rows (expanded_row file)) three ∙ rows_three (expanded_row file) x
      ∙ ap (λ (l : List ℕ). before ++ l) (ap₂ ◌++◌ (ap₂ ◌++◌ passed called) returned ∙ sym (call_rows_are v call)))
      (λ row.
      let one : first_vertex_of file (suc v) ≡ x + 1 = omega (arith, first_next file v, plain_last file v row) in
      ap (rows (expanded_row file)) one ∙ sym (rows_more (expanded_row file) x)
      ∙ ap (λ (l : List ℕ). before ++ l) (row_at x (plain_at file in_v row) ∙ sym (plain_row v row)))

  -- those of the vertices before n
  by_vertex : (n : ℕ) → n ≤ vertices file → rows (expanded_row file) (first_vertex_of file n) ≡ rows (vertex_rows file) n
  unfolding rows
  by_vertex zero h = ap (rows (expanded_row file)) (first_zero file)
  by_vertex (suc n) h = next_vertex n (omega arith) ∙ ap (λ (l : List ℕ). l ++ vertex_rows file n) (by_vertex n (omega arith))

  -- all of them
  pub all_by_vertex : rows (vertex_rows file) (vertices file) ≡ rows (expanded_row file) (expanded_vertices file)
  all_by_vertex = sym (by_vertex (vertices file) (omega arith)) ∙ ap (rows (expanded_row file)) (sym (size_is file))

  pub all_length : length (rows (vertex_rows file) (vertices file)) ≡ expanded_vertices file * arrays file
  all_length =
      ap length all_by_vertex
      ∙ rows-length (expanded_row file) (arrays file) (λ x. table-length (λ a. expanded_byte file a (part_at file x)) (arrays file)) (expanded_vertices file)
      ∙ mul_comm (arrays file) (expanded_vertices file)
