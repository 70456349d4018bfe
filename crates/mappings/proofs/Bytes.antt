-- The bytes of the converted routine: contents, array records, rows, edges.
-- Assumes nothing.
use mathlib.Core.Path.{◌≡◌, refl, ap, ap₂, ◌∙◌}
use mathlib.Core.List.{List, ◌++◌}
use Prim.Native.Nat.{ℕ, ◌+◌, ◌-◌, ◌*◌, ◌/◌, ◌%◌, ◌<◌}
use native.Mathlib.Nat.{mul_comm, mul-le-mul_right}
use native.Mathlib.Omega.{arith}
use lib.Dec.{lit<}
use lib.ListN.{length, get_or, take, drop, length-append, get_or-append}
use lib.Seq.{get_or-take, get_or-drop}
use Rattle.labels.specs.Events as L
use Rattle.routine.specs.Actions.{action_byte}
use Rattle.routine.specs.Arrays.{array_of, array_record_of}
use Rattle.routine.specs.Layout as R
use Rattle.words.proofs.Lists.{get_d_behind, drop_behind}
use Rattle.words.proofs.Tables.{rows-length, rows_at, table-length, table_at}
use Rattle.words.specs.Tables.{rows}
use Rattle.words.specs.Words.{word}
use Rattle.directives.specs.Layout.{arrays, vertices, edges, exit, edge_bytes}
use Rattle.directives.specs.declared.spread.Mapping.{Mapping}
use Rattle.mappings.specs.Converted.{array_bytes, action_for, row_bytes, head_bytes, converted_by}

-- a number is that of its two bytes
two_bytes : (n : ℕ) → n % 256 + 256 * (n / 256) ≡ n
two_bytes n = omega arith

module _ (file : List ℕ) (given : ℕ → ℕ → List Mapping) where
  abbrev routine : List ℕ
  routine = converted_by file given

  abbrev head : List ℕ
  head = head_bytes file given

  abbrev records : List ℕ
  records = rows (array_bytes file given) (arrays file)

  abbrev actions : List ℕ
  actions = rows (row_bytes file given) (vertices file)

  is : routine ≡ head ++ (records ++ (actions ++ edge_bytes file))
  unfolding converted_by
  is = refl

  pub in_head : (i : ℕ) → i < 18 → get_or routine i 0 ≡ get_or head i 0
  in_head i h = ap (λ (s : List ℕ). get_or s i 0) is ∙ get_or-append head (records ++ (actions ++ edge_bytes file)) 0 i h

  in_rest : (i : ℕ) → get_or routine (18 + i) 0 ≡ get_or (records ++ (actions ++ edge_bytes file)) i 0
  in_rest i = ap (λ (s : List ℕ). get_or s (18 + i) 0) is ∙ get_d_behind head (records ++ (actions ++ edge_bytes file)) refl i 0

  -- ---- contents: arrays, vertices and edges keep their numbers

  pub arrays_are : R.arrays routine ≡ arrays file
  unfolding word
  arrays_are = ap₂ (λ (x y : ℕ). x + 256 * y) (in_head 8 (lit< tt)) (in_head 9 (lit< tt)) ∙ two_bytes (arrays file)

  pub vertices_are : R.vertices routine ≡ vertices file
  unfolding word
  vertices_are = ap₂ (λ (x y : ℕ). x + 256 * y) (in_head 12 (lit< tt)) (in_head 13 (lit< tt)) ∙ two_bytes (vertices file)

  pub edges_are : R.edges routine ≡ edges file
  unfolding word
  edges_are = ap₂ (λ (x y : ℕ). x + 256 * y) (in_head 16 (lit< tt)) (in_head 17 (lit< tt)) ∙ two_bytes (edges file)

  pub exit_is : R.exit routine ≡ exit file
  exit_is = ap (λ (n : ℕ). n - 1) vertices_are

  -- ---- array records

  pub records_size : (n : ℕ) → length (rows (array_bytes file given) n) ≡ 4 * n
  records_size = rows-length (array_bytes file given) 4 (λ i. refl)

  pub array_is : (a : ℕ) → a < arrays file → array_of routine a ≡ array_record_of (array_bytes file given a)
  unfolding array_of
  array_is a h = cc (field 0 (lit< tt), field 1 (lit< tt), field 2 (lit< tt), field 3 (lit< tt))
    where
      field : (j : ℕ) → j < 4 → get_or (take 4 (drop (R.record_at a) routine)) j 0 ≡ get_or (array_bytes file given a) j 0
      field j l =
          let e : R.record_at a + j ≡ 18 + (a * 4 + j) = omega arith in
          get_or-take 4 (drop (R.record_at a) routine) j 0 l ∙ get_or-drop (R.record_at a) routine j 0
          ∙ ap (λ (i : ℕ). get_or routine i 0) e ∙ in_rest (a * 4 + j)
          ∙ get_or-append records (actions ++ edge_bytes file) 0 (a * 4 + j) (omega (arith, records_size (arrays file)))
          ∙ rows_at (array_bytes file given) 4 (λ i. refl) (arrays file) a j h l

  -- ---- rows

  pub row_size : (v : ℕ) → length (row_bytes file given v) ≡ arrays file
  row_size v = table-length (λ a. action_for file given a v (given a v)) (arrays file)

  pub actions_size : (n : ℕ) → length (rows (row_bytes file given) n) ≡ n * arrays file
  actions_size n = rows-length (row_bytes file given) (arrays file) row_size n ∙ mul_comm (arrays file) n

  pub byte_is : (a v : ℕ) → a < arrays file → v < vertices file → action_byte routine a v ≡ action_for file given a v (given a v)
  byte_is a v in_a in_v =
      let i = v * arrays file + a in
      let e : R.action_at routine a v ≡ 18 + (4 * arrays file + i) = omega (arith, arrays_are, ap (λ (n : ℕ). v * n) arrays_are) in
      ap (λ (i : ℕ). get_or routine i 0) e ∙ in_rest (4 * arrays file + i)
      ∙ get_d_behind records (actions ++ edge_bytes file) (records_size (arrays file)) i 0
      ∙ get_or-append actions (edge_bytes file) 0 i (omega (arith, actions_size (vertices file), mul-le-mul_right (arrays file) in_v))
      ∙ rows_at (row_bytes file given) (arrays file) row_size (vertices file) v a in_v in_a
      ∙ table_at (λ a. action_for file given a v (given a v)) (arrays file) a in_a

  -- ---- edges

  pub edge_bytes_lem : L.edge_bytes routine ≡ edge_bytes file
  edge_bytes_lem =
      let n = vertices file * arrays file in
      let e : R.edges_at routine ≡ 18 + (4 * arrays file + (n + 0)) = omega (arith, arrays_are, ap₂ ◌*◌ vertices_are arrays_are) in
      ap₂ drop e is ∙ drop_behind head (records ++ (actions ++ edge_bytes file)) refl (4 * arrays file + (n + 0))
      ∙ drop_behind records (actions ++ edge_bytes file) (records_size (arrays file)) (n + 0)
      ∙ drop_behind actions (edge_bytes file) (actions_size (vertices file)) 0

  -- ---- the end, where the file's edges fill it

  pub ends_there : length (edge_bytes file) ≡ 4 * edges file → length routine ≡ R.end_at routine
  ends_there size =
      let sized : length head + length (records ++ (actions ++ edge_bytes file)) ≡ R.end_at routine =
      omega (
        arith,
        length-append records (actions ++ edge_bytes file),
        length-append actions (edge_bytes file),
        records_size (arrays file),
        actions_size (vertices file),
        size,
        edges_are,
        arrays_are,
        ap₂ ◌*◌ vertices_are arrays_are,
      ) in
      ap length is ∙ length-append head (records ++ (actions ++ edge_bytes file)) ∙ sized
