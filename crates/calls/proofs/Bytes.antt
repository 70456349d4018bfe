-- The bytes of the expanded routine: contents, array records, rows, edges.
-- Assumes nothing.
use mathlib.Core.Path.{◌≡◌, refl, sym, ap, ap₂, ◌∙◌}
use mathlib.Core.List.{List, [], ◌∷◌, ◌++◌}
use Prim.Native.Nat.{ℕ, zero, suc, ◌+◌, ◌*◌, ◌/◌, ◌%◌, ◌<◌}
use native.Mathlib.Nat.{mul_comm, mul-le-mul_right}
use native.Mathlib.Omega.{arith}
use lib.Dec.{lit<}
use lib.ListN.{length, get_or, take, drop, length-append, length-drop, get_or-append}
use lib.Seq.{length-take-le, get_or-take, get_or-drop}
use Rattle.flow.specs.Paths.{edge_count, edge_from, edge_to}
use Rattle.labels.proofs.Rules.Proper.{edge_from_lem, edge_to_is}
use Rattle.labels.specs.Events.{edge_bytes}
use Rattle.routine.proofs.Form.{array_alike}
use Rattle.routine.specs.Actions.{action_of, action, action_byte}
use Rattle.routine.specs.Arrays.{array_of}
use Rattle.routine.specs.Edges.{edge_of}
use Rattle.routine.specs.Layout.{arrays, vertices, edges, record_at, actions_at, action_at, edges_at, end_at}
use Rattle.routine.specs.Reader.{Laid}
use Rattle.routine.specs.declared.edge.Edge.{Edge}
use Rattle.words.proofs.Lists.{get_d_behind, drop_behind}
use Rattle.words.proofs.Tables.{rows-length, rows_at, table-length, table_at}
use Rattle.words.specs.Tables.{rows}
use Rattle.words.specs.Words.{word, bytes16}
use Rattle.calls.specs.Expanded.{expanded_byte, expanded_row, edge, expanded_edges, edges_bytes, expanded}
use Rattle.calls.specs.Parts.{Part, expanded_vertices, part_at}

-- a number is that of its two bytes
two_bytes : (n : ℕ) → n % 256 + 256 * (n / 256) ≡ n
two_bytes n = omega arith

-- ---- edges

abbrev pub no_edge : Edge
no_edge = edge 0 0

pub edges_size : (es : List Edge) → length (edges_bytes es) ≡ 4 * length es
edges_size [] = refl
edges_size (e ∷ es) = omega (arith, edges_size es)

word_behind : (a b c d : ℕ) (r : List ℕ) (j : ℕ) → word (a ∷ b ∷ c ∷ d ∷ r) (suc (suc (suc (suc j)))) ≡ word r j
unfolding word
word_behind a b c d r j =
    let e : suc (suc (suc (suc j))) + 1 ≡ suc (suc (suc (suc (j + 1)))) = omega arith in
    ap (λ (i : ℕ). get_or r j 0 + 256 * get_or (a ∷ b ∷ c ∷ d ∷ r) i 0) e

from_at : (es : List Edge) (i : ℕ) → i < length es → edge_from (edges_bytes es) i ≡ (get_or es i no_edge).from
unfolding word
from_at [] i h = absurd (omega arith)
from_at (e ∷ es) zero h = two_bytes e.from
from_at (e ∷ es) (suc i) h =
    let s : 4 * suc i ≡ suc (suc (suc (suc (4 * i)))) = omega arith in
    ap (word (edges_bytes (e ∷ es))) s ∙ word_behind _ _ _ _ (edges_bytes es) (4 * i) ∙ from_at es i (omega arith)

to_at : (es : List Edge) (i : ℕ) → i < length es → edge_to (edges_bytes es) i ≡ (get_or es i no_edge).to
unfolding word
to_at [] i h = absurd (omega arith)
to_at (e ∷ es) zero h = two_bytes e.to
to_at (e ∷ es) (suc i) h =
    let s : 4 * suc i + 2 ≡ suc (suc (suc (suc (4 * i + 2)))) = omega arith in
    ap (word (edges_bytes (e ∷ es))) s ∙ word_behind _ _ _ _ (edges_bytes es) (4 * i + 2) ∙ to_at es i (omega arith)

-- ---- the whole

module _ (file : List ℕ) (laid : Laid file) where
  abbrev body : List ℕ
  body = rows (expanded_row file) (expanded_vertices file) ++ edges_bytes (expanded_edges file)

  abbrev records : List ℕ
  records = take (4 * arrays file) (drop 18 file)

  abbrev counts : List ℕ
  counts = bytes16 (expanded_vertices file) ++ (bytes16 (actions_at file + expanded_vertices file * arrays file) ++ bytes16 (length (expanded_edges file)))

  is : expanded file ≡ take 12 file ++ (counts ++ (records ++ body))
  unfolding expanded
  is = refl

  head_size : length (take 12 file) ≡ 12
  head_size = length-take-le 12 file (omega (arith, laid.ends))

  records_size : length records ≡ 4 * arrays file
  records_size = length-take-le (4 * arrays file) (drop 18 file) (omega (arith, length-drop 18 file, laid.ends))

  row_size : (x : ℕ) → length (expanded_row file x) ≡ arrays file
  row_size x = table-length (λ a. expanded_byte file a (part_at file x)) (arrays file)

  pub rows_size : length (rows (expanded_row file) (expanded_vertices file)) ≡ expanded_vertices file * arrays file
  rows_size = rows-length (expanded_row file) (arrays file) row_size (expanded_vertices file) ∙ mul_comm (arrays file) (expanded_vertices file)

  in_head : (i : ℕ) → i < 12 → get_or (expanded file) i 0 ≡ get_or file i 0
  in_head i h =
      ap (λ (s : List ℕ). get_or s i 0) is ∙ get_or-append (take 12 file) (counts ++ (records ++ body)) 0 i (omega (arith, head_size))
      ∙ get_or-take 12 file i 0 h

  in_counts : (i : ℕ) → i < 6 → get_or (expanded file) (12 + i) 0 ≡ get_or counts i 0
  in_counts i h =
      ap (λ (s : List ℕ). get_or s (12 + i) 0) is ∙ get_d_behind (take 12 file) (counts ++ (records ++ body)) head_size i 0
      ∙ get_or-append counts (records ++ body) 0 i h

  in_rest : (i : ℕ) → get_or (expanded file) (12 + (6 + i)) 0 ≡ get_or (records ++ body) i 0
  in_rest i =
      ap (λ (s : List ℕ). get_or s (12 + (6 + i)) 0) is ∙ get_d_behind (take 12 file) (counts ++ (records ++ body)) head_size (6 + i) 0
      ∙ get_d_behind counts (records ++ body) refl i 0

  -- ---- contents

  pub arrays_are : arrays (expanded file) ≡ arrays file
  unfolding word
  arrays_are = ap₂ (λ (x y : ℕ). x + 256 * y) (in_head 8 (lit< tt)) (in_head 9 (lit< tt))

  pub vertices_are : vertices (expanded file) ≡ expanded_vertices file
  unfolding word
  vertices_are = ap₂ (λ (x y : ℕ). x + 256 * y) (in_counts 0 (lit< tt)) (in_counts 1 (lit< tt)) ∙ two_bytes (expanded_vertices file)

  pub edges_are : edges (expanded file) ≡ length (expanded_edges file)
  unfolding word
  edges_are = ap₂ (λ (x y : ℕ). x + 256 * y) (in_counts 4 (lit< tt)) (in_counts 5 (lit< tt)) ∙ two_bytes (length (expanded_edges file))

  -- ---- array records

  pub array_is : (a : ℕ) → a < arrays file → array_of (expanded file) a ≡ array_of file a
  array_is a h = array_alike (expanded file) file a (λ j l.
      let e : record_at a + j ≡ 12 + (6 + (4 * a + j)) = omega arith in
      let f : 18 + (4 * a + j) ≡ record_at a + j = omega arith in
      ap (λ (i : ℕ). get_or (expanded file) i 0) e ∙ in_rest (4 * a + j)
      ∙ get_or-append records body 0 (4 * a + j) (omega (arith, records_size))
      ∙ get_or-take (4 * arrays file) (drop 18 file) (4 * a + j) 0 (omega arith) ∙ get_or-drop 18 file (4 * a + j) 0
      ∙ ap (λ (i : ℕ). get_or file i 0) f)

  -- ---- rows

  byte_is : (a x : ℕ) → a < arrays file → x < expanded_vertices file → action_byte (expanded file) a x ≡ expanded_byte file a (part_at file x)
  byte_is a x in_a in-x =
      let e : action_at (expanded file) a x ≡ 12 + (6 + (4 * arrays file + (x * arrays file + a))) =
      omega (arith, arrays_are, ap (λ (n : ℕ). x * n) arrays_are) in
      let i = x * arrays file + a in
      ap (λ (i : ℕ). get_or (expanded file) i 0) e ∙ in_rest (4 * arrays file + i)
      ∙ get_d_behind records body records_size i 0
      ∙ get_or-append (rows (expanded_row file) (expanded_vertices file)) (edges_bytes (expanded_edges file)) 0 i (omega (arith, rows_size, mul-le-mul_right (arrays file) in-x))
      ∙ rows_at (expanded_row file) (arrays file) row_size (expanded_vertices file) x a in-x in_a
      ∙ table_at (λ a. expanded_byte file a (part_at file x)) (arrays file) a in_a

  -- what a vertex does, by what stands there
  pub action_is : (a x : ℕ) {p : Part} → a < arrays file → x < expanded_vertices file → part_at file x ≡ p → action (expanded file) a x ≡ action_of (expanded_byte file a p)
  unfolding action
  action_is a x in_a in-x e = ap action_of (byte_is a x in_a in-x ∙ ap (expanded_byte file a) e)

  -- ---- edges

  edge_bytes_lem : edge_bytes (expanded file) ≡ edges_bytes (expanded_edges file)
  edge_bytes_lem =
      let n = expanded_vertices file * arrays file in
      let e : edges_at (expanded file) ≡ 12 + (6 + (4 * arrays file + (n + 0))) = omega (arith, arrays_are, ap₂ ◌*◌ vertices_are arrays_are) in
      ap₂ drop e is ∙ drop_behind (take 12 file) (counts ++ (records ++ body)) head_size (6 + (4 * arrays file + (n + 0)))
      ∙ drop_behind counts (records ++ body) refl (4 * arrays file + (n + 0))
      ∙ drop_behind records body records_size (n + 0)
      ∙ drop_behind (rows (expanded_row file) (expanded_vertices file)) (edges_bytes (expanded_edges file)) rows_size 0

  pub edge_count_is : edge_count (edge_bytes (expanded file)) ≡ length (expanded_edges file)
  edge_count_is = ap edge_count edge_bytes_lem ∙ (let e : length (edges_bytes (expanded_edges file)) / 4 ≡ length (expanded_edges file) = omega (arith, edges_size (expanded_edges file)) in e)

  pub edge_is : (i : ℕ) → i < length (expanded_edges file) → edge_of (expanded file) i ≡ get_or (expanded_edges file) i no_edge
  edge_is i h =
      ap₂ edge
      (sym (edge_from_lem (expanded file) i) ∙ ap (λ (s : List ℕ). edge_from s i) edge_bytes_lem ∙ from_at (expanded_edges file) i h)
      (sym (edge_to_is (expanded file) i) ∙ ap (λ (s : List ℕ). edge_to s i) edge_bytes_lem ∙ to_at (expanded_edges file) i h)

  -- ---- the end

  pub ends_there : length (expanded file) ≡ end_at (expanded file)
  ends_there =
      let sized : length (take 12 file) + length (counts ++ (records ++ body)) ≡ end_at (expanded file) =
      omega (
        arith,
        head_size,
        records_size,
        length-append counts (records ++ body),
        length-append records body,
        length-append (rows (expanded_row file) (expanded_vertices file)) (edges_bytes (expanded_edges file)),
        rows_size,
        edges_size (expanded_edges file),
        edges_are,
        arrays_are,
        ap₂ ◌*◌ vertices_are arrays_are,
      ) in
      ap length is ∙ length-append (take 12 file) (counts ++ (records ++ body)) ∙ sized
