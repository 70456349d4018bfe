-- The parts of the converted routine: their counts, and that they fit and are the whole.
-- Assumes nothing.
use mathlib.Core.Path.{◌≡◌, sym, ap, ap₂, ◌∙◌}
use mathlib.Core.List.{List, ◌++◌, append_assoc}
use Prim.Native.Nat.{ℕ, ◌+◌, ◌-◌, ◌*◌, ◌≤◌}
use native.Mathlib.Nat.{mul-le-mul_right}
use native.Mathlib.Omega.{arith}
use lib.ListN.{length, take, drop}
use Rattle.words.specs.Tables.{rows}
use Rattle.directives.specs.Layout.{arrays, vertices, edges, edge_bytes}
use Rattle.directives.specs.Read.{ReadFile}
use Rattle.mappings.proofs.Bytes.{arrays_are, vertices_are, edges_are, ends_there}
use Rattle.mappings.proofs.Formed.{limits, edges_size}
use Rattle.mappings.specs.Computed.{given_to, converted}
use Rattle.mappings.specs.Converted.{array_bytes, row_bytes, head_bytes, converted_by}
use Rattle.routine.specs.Layout.{header_of}
use Rattle.routine.specs.Reader.{Limits}
use Rattle.routine.specs.declared.header.Header.{Header}

-- the header of the converted routine, by counts of the directive file
pub header_is : (file : List ℕ) {a v n : ℕ} → a ≡ arrays file → v ≡ vertices file → n ≡ edges file
    → ◌≡◌ {A = Header} (record { arrays = a; vertices = v; edges = n }) (header_of (converted file))
unfolding converted
header_is file in_arrays in_vertices in_edges =
    cc (in_arrays, in_vertices, in_edges, arrays_are file (given_to file), vertices_are file (given_to file), edges_are file (given_to file))

-- a header with the counts of the directive file
pub record Counted (file : List ℕ) (r : Header) : Type 0 where
  pub arrays_are : r.arrays ≡ arrays file
  pub vertices_are : r.vertices ≡ vertices file
  pub edges_are : r.edges ≡ edges file
  pub limits : Limits r

module _ {file : List ℕ} {r : Header} (c : Counted file r) where
  pub rows_place : 18 + 4 * r.arrays ≡ 18 + 4 * arrays file
  rows_place = omega (arith, c.arrays_are)

  pub edges_place : 18 + 4 * r.arrays + r.vertices * r.arrays ≡ 18 + 4 * arrays file + vertices file * arrays file
  edges_place = omega (arith, c.arrays_are, ap₂ ◌*◌ c.vertices_are c.arrays_are)

-- a buffer whose part from `at` on was lent
abbrev pub put : ℕ → List ℕ → List ℕ → List ℕ
put at out part = take at out ++ (part ++ drop (length out - at) (drop at out))

module _ (d : ReadFile) where
  pub counted : {r : Header} → r ≡ header_of (converted d.bytes) → Counted d.bytes r
  unfolding converted
  counted e =
      let a = ap (λ (r : Header). r.arrays) e ∙ arrays_are d.bytes (given_to d.bytes) in
      let v = ap (λ (r : Header). r.vertices) e ∙ vertices_are d.bytes (given_to d.bytes) in
      let n = ap (λ (r : Header). r.edges) e ∙ edges_are d.bytes (given_to d.bytes) in
      record { arrays_are = a; vertices_are = v; edges_are = n; limits = omega (arith, a, v, n, limits d.bytes d.passed) }

  -- at most 18 + 4 * 8 + 256 * 8 + 4 * 1,024 bytes
  pub fits : 18 + 4 * arrays d.bytes + vertices d.bytes * arrays d.bytes + 4 * edges d.bytes ≤ 6194
  fits =
      let l = limits d.bytes d.passed in
      omega (arith, l.few_arrays, mul-le-mul_right (arrays d.bytes) l.few_vertices, l.few_edges)

  pub size_is : {r : Header} → r ≡ header_of (converted d.bytes) → 18 + 4 * r.arrays + r.vertices * r.arrays + 4 * r.edges ≡ length (converted d.bytes)
  unfolding converted
  size_is e =
      ap (λ (r : Header). 18 + 4 * r.arrays + r.vertices * r.arrays + 4 * r.edges) e
      ∙ sym (ends_there d.bytes (given_to d.bytes) (edges_size d.bytes d.passed))

-- contents, records, rows and edges, one behind the other
pub whole : (file : List ℕ) →
    ((head_bytes file (given_to file) ++ rows (array_bytes file (given_to file)) (arrays file)) ++ rows (row_bytes file (given_to file)) (vertices file)) ++ edge_bytes file
    ≡ converted file
unfolding converted converted_by
whole file =
    let head = head_bytes file (given_to file) in
    let records = rows (array_bytes file (given_to file)) (arrays file) in
    let actions = rows (row_bytes file (given_to file)) (vertices file) in
    append_assoc (head ++ records) actions (edge_bytes file) ∙ append_assoc head records (actions ++ edge_bytes file)
