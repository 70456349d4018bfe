-- How the expanded routine is written: its edges by one walk over the file's vertices and edges together; the whole from its parts.
-- Assumes nothing.
use mathlib.Core.Path.{◌≡◌, refl, sym, ap, ap₂, ◌∙◌}
use mathlib.Core.Bool.{Bool, true, false}
use mathlib.Core.List.{List, [], ◌∷◌, ◌++◌, append_assoc, append-nil}
use mathlib.Core.Logic.{⊎_elim}
use Prim.Native.Nat.{ℕ, zero, suc, ◌+◌, ◌-◌, ◌*◌, ◌≤◌, ◌<◌}
use native.Mathlib.Nat.{eq-or-lt_of_le, mul-le-mul_right}
use native.Mathlib.Numerals.{add-one}
use native.Mathlib.Omega.{arith}
use borrow.Author.Tests.{eqb-true, eqb-false, eq-eqb, ne_eqb, lt-ltb, le-ltb}
use lib.Dec.{eqb, ltb}
use lib.ListN.{length, take, drop, length-append, length-drop}
use lib.Seq.{length-take-le}
use Rattle.routine.specs.Edges.{edge_of}
use Rattle.routine.specs.Layout.{arrays, vertices, edges, header_of}
use Rattle.routine.specs.Reader.{WellFormed}
use Rattle.routine.specs.declared.edge.Edge.{Edge}
use Rattle.routine.specs.declared.header.Header.{Header}
use Rattle.words.proofs.Buffers.{Front, more}
use Rattle.words.proofs.Sums.{count_few}
use Rattle.words.proofs.Tables.{rows_empty}
use Rattle.words.proofs.Tests.{at_cond, by_test}
use Rattle.words.proofs.Written.{part_from}
use Rattle.words.specs.Tables.{rows, wrote}
use Rattle.words.specs.Words.{bytes16}
use Rattle.calls.specs.Calls.{is_call_row}
use Rattle.calls.specs.Expanded.{expanded_row, edge, inner_edges, outer_edge, edges_from, expanded_edges, edges_bytes, expanded}
use Rattle.calls.specs.Interfaces.{Expandable}
use Rattle.calls.specs.Parts.{expanded_vertices, first_vertex_of, last_of}
use Rattle.calls.specs.Writing.{Leaves, edges_up_to, Placed, Onward, count_bytes, head_bytes}
use Rattle.calls.specs.declared.edges.Place.{Place}
use Rattle.calls.proofs.Bytes.{edges_size, arrays_are, vertices_are, edges_are, ends_there}
use Rattle.calls.proofs.Formed.{expanded_formed}
use Rattle.calls.proofs.Joins.{from_rises, edges_count}
use Rattle.calls.proofs.Parts.{first_next, call_last, plain_last, size_is, size-count, first_rises}
use Rattle.calls.proofs.Referring.{entry_no_call}

-- ---- bytes and lengths

bytes_append : (s t : List Edge) → edges_bytes (s ++ t) ≡ edges_bytes s ++ edges_bytes t
bytes_append [] t = refl
bytes_append (e ∷ s) t = ap (λ (r : List ℕ). bytes16 e.from ++ (bytes16 e.to ++ r)) (bytes_append s t)

-- fewer rows are no longer
rows_up : {A : Type 0} (row : ℕ → List A) (n m : ℕ) → n ≤ m → length (rows row n) ≤ length (rows row m)
unfolding rows
rows_up row n zero h = let e : n ≡ 0 = omega arith in omega (arith, ap (λ (k : ℕ). length (rows row k)) e)
rows_up row n (suc m) h = ⊎_elim
    (λ (e : n ≡ suc m). omega (arith, ap (λ (k : ℕ). length (rows row k)) e))
    (λ (l : n < suc m). omega (arith, rows_up row n m (omega arith), length-append (rows row m) (row m)))
    (eq-or-lt_of_le h)

-- ---- first vertices

pub firsts_few : (file : List ℕ) → expanded_vertices file ≤ 256 → (v : ℕ) → v ≤ vertices file → first_vertex_of file v ≤ 256
firsts_few file few v h = ⊎_elim
    (λ (e : v ≡ vertices file). omega (arith, ap (first_vertex_of file) e, size_is file))
    (λ (l : v < vertices file). omega (arith, first_rises file (vertices file) v l, size_is file))
    (eq-or-lt_of_le h)

module _ (file : List ℕ) (v : ℕ) where
  pub first_after : first_vertex_of file (v + 1) ≡ last_of file v + 1
  first_after = ap (first_vertex_of file) (add-one v) ∙ first_next file v

  -- a call becomes more than one
  pub more_than_one : ltb (first_vertex_of file v + 1) (first_vertex_of file (v + 1)) ≡ is_call_row file v
  more_than_one = by_test (is_call_row file v)
      (λ call. lt-ltb (first_vertex_of file v + 1) (first_vertex_of file (v + 1)) (omega (arith, first_after, call_last file v call)) ∙ sym call)
      (λ row. le-ltb (first_vertex_of file v + 1) (first_vertex_of file (v + 1)) (omega (arith, first_after, plain_last file v row)) ∙ sym row)

  -- no call: one vertex
  pub none_inside : first_vertex_of file (v + 1) ≡ first_vertex_of file v + 1 → inner_edges file v ≡ []
  none_inside e = at_cond (λ (es : List Edge). es ≡ []) (is_call_row file v)
      (λ call. absurd (omega (arith, first_after, call_last file v call)))
      (λ _. refl)

  -- else a call
  pub two_inside : (first_vertex_of file (v + 1) ≡ first_vertex_of file v + 1 → ⊥)
      → inner_edges file v ≡ edge (first_vertex_of file v) (first_vertex_of file v + 1) ∷ edge (first_vertex_of file v + 1) (first_vertex_of file v + 2) ∷ []
  two_inside more = at_cond (λ (es : List Edge). es ≡ edge (first_vertex_of file v) (first_vertex_of file v + 1) ∷ edge (first_vertex_of file v + 1) (first_vertex_of file v + 2) ∷ []) (is_call_row file v)
      (λ _. refl)
      (λ row. absurd (more (omega (arith, first_after, plain_last file v row))))

-- ---- a step

pub leaves_tell : (file : List ℕ) (i v x : ℕ) → i < edges file → x ≡ (edge_of file i).from → Leaves file i v (eqb x v)
leaves_tell file i v x h e = go (eqb x v) refl
  where
    go : (b : Bool) → eqb x v ≡ b → Leaves file i v b
    go true f = (h, sym e ∙ eqb-true x v f)
    go false f = λ l g. eqb-false x v f (e ∙ g)

module _ (file : List ℕ) where
  -- edge i leaves v: it is the next
  next_edge : (v i : ℕ) → (edge_of file i).from ≡ v
      → edges_up_to file v (suc i) ≡ edges_up_to file v i ++ (edge (last_of file v) (first_vertex_of file (edge_of file i).to) ∷ [])
  unfolding rows
  next_edge v i e =
      let s = rows (edges_from file) v in
      let d = edge (last_of file v) (first_vertex_of file (edge_of file i).to) ∷ [] in
      let one : outer_edge file v i ≡ d = rw (eq-eqb (edge_of file i).from v e) in
      ap (λ (t : List Edge). s ++ (inner_edges file v ++ (rows (outer_edge file v) i ++ t))) one
      ∙ ap (λ (t : List Edge). s ++ t) (sym (append_assoc (inner_edges file v) (rows (outer_edge file v) i) d))
      ∙ sym (append_assoc s (inner_edges file v ++ rows (outer_edge file v) i) d)

  -- edges that leave other vertices add nothing
  no_more : (v i m : ℕ) → ((k : ℕ) → i ≤ k → k < i + m → (edge_of file k).from ≡ v → ⊥) → rows (outer_edge file v) (i + m) ≡ rows (outer_edge file v) i
  unfolding rows
  no_more v i zero other = let e : i + 0 ≡ i = omega arith in ap (rows (outer_edge file v)) e
  no_more v i (suc m) other =
      let e : i + suc m ≡ suc (i + m) = omega arith in
      let none : outer_edge file v (i + m) ≡ [] = rw (ne_eqb (edge_of file (i + m)).from v (other (i + m) (omega arith) (omega arith))) in
      ap (rows (outer_edge file v)) e ∙ ap (λ (t : List Edge). rows (outer_edge file v) (i + m) ++ t) none
      ∙ append-nil (rows (outer_edge file v) (i + m)) ∙ no_more v i m (λ k h l. other k h (omega arith))

  -- those before i leave v or an earlier vertex, the others a later one: the next vertex
  next_vertex : (v i : ℕ) → i ≤ edges file → ((k : ℕ) → k < i → (edge_of file k).from ≤ v) → ((k : ℕ) → i ≤ k → k < edges file → v < (edge_of file k).from)
      → edges_up_to file (suc v) i ≡ edges_up_to file v i ++ inner_edges file (suc v)
  unfolding rows
  next_vertex v i within earlier later =
      let s = rows (edges_from file) v in
      let e : edges file ≡ i + (edges file - i) = omega arith in
      let all : rows (outer_edge file v) (edges file) ≡ rows (outer_edge file v) i =
      ap (rows (outer_edge file v)) e ∙ no_more v i (edges file - i) (λ k h l f. omega (arith, later k h (omega arith))) in
      let none : rows (outer_edge file (suc v)) i ≡ [] =
      rows_empty (outer_edge file (suc v)) i (λ k h. rw (ne_eqb (edge_of file k).from (suc v) (λ f. omega (arith, earlier k h)))) in
      ap₂ (λ (t u : List Edge). (s ++ (inner_edges file v ++ t)) ++ (inner_edges file (suc v) ++ u)) all none
      ∙ ap (λ (u : List Edge). edges_up_to file v i ++ u) (append-nil (inner_edges file (suc v)))

module _ {file : List ℕ} (w : WellFormed file) where
  -- none is inside the entry
  pub begins : Placed file (record { vertex = 0; edge = 0; count = 0 })
  unfolding rows
  begins = record {
    in_vertices = omega (arith, w.laid.limits.two_vertices);
    in_edges = omega arith;
    earlier = λ k h. absurd (omega arith);
    later = λ k h l. omega arith;
    counted = rw (entry_no_call file w);
  }

  pub begins_none : edges_up_to file 0 0 ≡ []
  unfolding rows
  begins_none = rw (entry_no_call file w)

  pub all_few : length (expanded_edges file) ≤ 1704
  all_few = omega (arith, edges_count file w, count_few (is_call_row file) (vertices file), w.laid.limits.few_vertices, w.laid.limits.few_edges)

  module _ {p : Place} (here : Placed file p) where
    -- no more than all
    pub up_to_few : p.count ≤ length (expanded_edges file)
    unfolding rows expanded_edges
    up_to_few = omega (
      arith,
      here.counted,
      here.in_vertices,
      length-append (rows (edges_from file) p.vertex) (inner_edges file p.vertex ++ rows (outer_edge file p.vertex) p.edge),
      length-append (inner_edges file p.vertex) (rows (outer_edge file p.vertex) p.edge),
      rows_up (outer_edge file p.vertex) p.edge (edges file) here.in_edges,
      length-append (inner_edges file p.vertex) (rows (outer_edge file p.vertex) (edges file)),
      length-append (rows (edges_from file) p.vertex) (edges_from file p.vertex),
      rows_up (edges_from file) (suc p.vertex) (vertices file) (omega (arith, here.in_vertices)),
    )

    -- where the next is to stand
    pub place_is : 4 * p.count ≡ length (edges_bytes (edges_up_to file p.vertex p.edge))
    place_is = omega (arith, here.counted, edges_size (edges_up_to file p.vertex p.edge))

    pub write_on : {q : Place} {old out ys : List ℕ} → Front old (edges_bytes (edges_up_to file p.vertex p.edge)) out → Onward file p q (part_from out (4 * p.count)) ys
        → Front old (edges_bytes (edges_up_to file q.vertex q.edge)) (take (4 * p.count) out ++ (ys ++ drop (length out - 4 * p.count) (drop (4 * p.count) out)))
    write_on {q} {old} f o = record {
      is = (more f place_is (edges_bytes o.between) o.is).is
          ∙ ap (wrote old) (sym (bytes_append (edges_up_to file p.vertex p.edge) o.between) ∙ ap edges_bytes (sym o.on));
    }

    -- the last vertex: these are all, since none leaves the exit
    pub ends : vertices file ≤ p.vertex + 1 → edges_up_to file p.vertex p.edge ≡ expanded_edges file
    unfolding expanded_edges rows
    ends h =
        let last : suc p.vertex ≡ vertices file = omega (arith, here.in_vertices) in
        let all : p.edge ≡ edges file = ⊎_elim
        (λ (e : p.edge ≡ edges file). e)
        (λ (l : p.edge < edges file).
        let limits = w.edge_limits l in
        absurd (limits.from_other (omega (arith, here.later p.edge (omega arith) l, limits.from_below))))
        (eq-or-lt_of_le here.in_edges) in
        ap (edges_up_to file p.vertex) all ∙ ap (rows (edges_from file)) last

    -- edge .edge leaves this vertex
    module _ (listed : p.edge < edges file) (leaves : (edge_of file p.edge).from ≡ p.vertex) where
      abbrev past_edge : Place
      past_edge = record { vertex = p.vertex; edge = p.edge + 1; count = p.count + 1 }

      on_edge : edges_up_to file p.vertex (p.edge + 1) ≡ edges_up_to file p.vertex p.edge ++ (edge (last_of file (edge_of file p.edge).from) (first_vertex_of file (edge_of file p.edge).to) ∷ [])
      on_edge =
          ap (edges_up_to file p.vertex) (add-one p.edge) ∙ next_edge file p.vertex p.edge leaves
          ∙ ap (λ (v : ℕ). edges_up_to file p.vertex p.edge ++ (edge (last_of file v) (first_vertex_of file (edge_of file p.edge).to) ∷ [])) (sym leaves)

      pub past_edge_lem : Placed file past_edge
      past_edge_lem = record {
        in_vertices = here.in_vertices;
        in_edges = omega arith;
        earlier = λ k l. ⊎_elim
            (λ (q : k ≡ p.edge). omega (arith, ap (λ (j : ℕ). (edge_of file j).from) q))
            (λ (q : k < p.edge). here.earlier k q)
            (eq-or-lt_of_le {n = k} {m = p.edge} (omega arith));
        later = λ k l. here.later k (omega arith);
        counted = omega (arith, here.counted, ap length on_edge, length-append (edges_up_to file p.vertex p.edge) (edge (last_of file (edge_of file p.edge).from) (first_vertex_of file (edge_of file p.edge).to) ∷ []));
      }

      pub onward_edge : {e : Edge} {old new : List ℕ} → e ≡ edge (last_of file (edge_of file p.edge).from) (first_vertex_of file (edge_of file p.edge).to)
          → new ≡ wrote old (edges_bytes (e ∷ [])) → Onward file p past_edge old new
      onward_edge {e} is w = record {
        placed = past_edge_lem;
        between = e ∷ [];
        on = on_edge ∙ ap (λ (d : Edge). edges_up_to file p.vertex p.edge ++ (d ∷ [])) (sym is);
        less = omega arith;
        is = w;
      }

    -- none from edge .edge on does
    module _ (next : p.vertex + 1 < vertices file) (none : p.edge < edges file → (edge_of file p.edge).from ≡ p.vertex → ⊥) where
      abbrev in_next : ℕ → Place
      in_next k = record { vertex = p.vertex + 1; edge = p.edge; count = p.count + k }

      past : (k : ℕ) → p.edge ≤ k → k < edges file → p.vertex < (edge_of file k).from
      past k l m = ⊎_elim
          (λ (q : p.vertex ≡ (edge_of file p.edge).from). absurd (none (omega arith) (sym q)))
          (λ (q : p.vertex < (edge_of file p.edge).from). omega (arith, from_rises file w p.edge k l m))
          (eq-or-lt_of_le (here.later p.edge (omega arith) (omega arith)))

      on_vertex : edges_up_to file (p.vertex + 1) p.edge ≡ edges_up_to file p.vertex p.edge ++ inner_edges file (p.vertex + 1)
      on_vertex =
          ap (λ (v : ℕ). edges_up_to file v p.edge) (add-one p.vertex) ∙ next_vertex file p.vertex p.edge here.in_edges here.earlier past
          ∙ ap (λ (v : ℕ). edges_up_to file p.vertex p.edge ++ inner_edges file v) (sym (add-one p.vertex))

      pub in_next_lem : {k : ℕ} → k ≡ length (inner_edges file (p.vertex + 1)) → Placed file (in_next k)
      in_next_lem e = record {
        in_vertices = next;
        in_edges = here.in_edges;
        earlier = λ k l. omega (arith, here.earlier k l);
        later = λ k l m. omega (arith, past k l m);
        counted = omega (arith, here.counted, ap length on_vertex, length-append (edges_up_to file p.vertex p.edge) (inner_edges file (p.vertex + 1)));
      }

      pub onward_vertex : {k : ℕ} {old new : List ℕ} → k ≡ length (inner_edges file (p.vertex + 1)) → new ≡ wrote old (edges_bytes (inner_edges file (p.vertex + 1)))
          → Onward file p (in_next k) old new
      onward_vertex e w = record { placed = in_next_lem e; between = inner_edges file (p.vertex + 1); on = on_vertex; less = omega arith; is = w }

-- ---- the whole

-- the header of the expanded routine
abbrev pub expanded_header : List ℕ → Header
expanded_header file = record { arrays = arrays file; vertices = expanded_vertices file; edges = length (expanded_edges file) }

module _ {file : List ℕ} (can : Expandable file) where
  pub header_is : expanded_header file ≡ header_of (expanded file)
  header_is =
      let laid = can.well.laid in
      let e : arrays (expanded file) ≡ arrays file = arrays_are file laid in
      rw (e, vertices_are file laid, edges_are file laid)

  pub expanded_size : length (expanded file) ≡ 18 + 4 * arrays file + expanded_vertices file * arrays file + 4 * length (expanded_edges file)
  expanded_size =
      let laid = can.well.laid in
      omega (arith, ends_there file laid, arrays_are file laid, ap₂ ◌*◌ (vertices_are file laid) (arrays_are file laid), edges_are file laid)

  -- each call has two vertices and two edges more
  pub more_edges : length (expanded_edges file) + vertices file ≡ edges file + expanded_vertices file
  more_edges = omega (arith, edges_count file can.well, size_is file, size-count file (vertices file))

  pub no_shorter : length file ≤ length (expanded file)
  no_shorter =
      let more : vertices file ≤ expanded_vertices file = omega (arith, size_is file, size-count file (vertices file)) in
      omega (arith, can.well.laid.ends, expanded_size, more_edges, mul-le-mul_right (arrays file) more)

  -- at most 18 + 4 * 8 + 256 * 8 + 4 * 1,192 bytes
  pub size_few : 18 + 4 * arrays file + expanded_vertices file * arrays file + 4 * length (expanded_edges file) ≤ 6866
  size_few = omega (
    arith,
    can.well.laid.limits.few_arrays,
    mul-le-mul_right (arrays file) can.few_vertices,
    (expanded_formed file can).laid.limits.few_edges,
    edges_are file can.well.laid,
  )

  pub head_size : length (head_bytes file (expanded_header file)) ≡ 18 + 4 * arrays file
  head_size = omega (
    arith,
    can.well.laid.ends,
    length-append (take 12 file ++ count_bytes (expanded_header file)) (take (4 * arrays file) (drop 18 file)),
    length-append (take 12 file) (count_bytes (expanded_header file)),
    length-take-le 12 file (omega (arith, can.well.laid.ends)),
    length-take-le (4 * arrays file) (drop 18 file) (omega (arith, length-drop 18 file, can.well.laid.ends)),
  )

  pub whole : (head_bytes file (expanded_header file) ++ rows (expanded_row file) (expanded_vertices file)) ++ edges_bytes (expanded_edges file) ≡ expanded file
  unfolding expanded
  whole =
      let counts = count_bytes (expanded_header file) in
      let records = take (4 * arrays file) (drop 18 file) in
      let r = rows (expanded_row file) (expanded_vertices file) in
      let e = edges_bytes (expanded_edges file) in
      append_assoc ((take 12 file ++ counts) ++ records) r e ∙ append_assoc (take 12 file ++ counts) records (r ++ e) ∙ append_assoc (take 12 file) counts (records ++ (r ++ e))
