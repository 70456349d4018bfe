-- What check 40 leaves.
-- Assumes nothing.
use Rattle.std.specs.Prelude.{Ok}
use mathlib.Core.Path.{◌≡◌, refl, sym, ap, subst, ◌∙◌}
use mathlib.Core.Bool.{Bool, true, false, not, ◌&&◌, ◌||◌, cond, true≢false}
use mathlib.Core.List.{List, [], ◌∷◌}
use Prim.Native.Nat.{ℕ, ◌+◌, ◌*◌, ◌≤◌, ◌<◌}
use native.Mathlib.Nat.{add_assoc}
use native.Mathlib.Omega.{arith}
use borrow.Author.Tests.{leb-true, ltb-true, eqb-true}
use lib.Dec.{T, eqb, ltb}
use lib.ListN.{length, get_or, length-drop}
use Rattle.flow.specs.Paths.{edge_count, edge_from, edge_to}
use Rattle.labels.proofs.Rules.Proper.{word-drop}
use Rattle.routine.specs.Actions.{action_of, is_reference}
use Rattle.words.proofs.Tests.{and_left, and_right, by_test}
use Rattle.words.specs.Words.{word}
use Rattle.directives.proofs.Fields.{passed_front, passed_back, passed_row, passed_right_here, behind}
use Rattle.directives.proofs.Limits.{passed_heads}
use Rattle.directives.proofs.Parts.{array_passed, vertex_passed, edge_passed, ends_there}
use Rattle.directives.specs.Directives.{alignment_at, directive}
use Rattle.directives.specs.Fields.{byte_field, in_order, array_fields, directive_byte, is_entry_or_exit, subjects, directive_fields, given_fields, is_right_reference, reference_fields, vertex_fields, edge_of, rises, edge_fields, check40}
use Rattle.directives.specs.Layout.{templates, arrays, vertices, edges, entry, exit, array_at, vertex_at, reference_at, edges_at, edge_at, edge_bytes, Limits}
use Rattle.directives.specs.declared.array.Alignment.{Alignment}
use Rattle.directives.specs.declared.spread.Mapping.{Mapping}
use Rattle.directives.specs.declared.vertex.Directive.TheVariants.{Nothing, Realign, Redistribute}
use Rattle.mappings.specs.Along.{initial_state}
use Rattle.mappings.specs.Theorem.{Right, Formed}

module _ (file : List ℕ) (passed : check40 file ≡ Ok tt) where
  pub limits : Limits file
  limits = (passed_heads file passed).limits

  -- ---- arrays

  pub kind_known : (a : ℕ) → a < arrays file → get_or file (array_at file a) 0 ≤ 3
  unfolding array_fields
  kind_known a h = leb-true _ _ (passed_right_here file _ _ (array_passed file passed a h))

  array_aligned : (a : ℕ) → a < arrays file → Right file ((initial_state file).aligned a)
  unfolding array_fields alignment_at
  array_aligned a h =
      let r = array_passed file passed a h in
      let t : get_or file (array_at file a + 1) 0 < templates file = ltb-true _ _ (passed_right_here file _ _ (behind file 1 (array_fields file a) r)) in
      let e : get_or file (array_at file a + 2) 0 ≤ 1 = leb-true _ _ (passed_right_here file _ _ (behind file 2 (array_fields file a) r)) in
      let same : get_or file (array_at file a + 1 + 1) 0 ≡ get_or file (array_at file a + 2) 0 = ap (λ (i : ℕ). get_or file i 0) (add_assoc (array_at file a) 1 1) in
      (t, omega (arith, same, e))

  -- ---- vertices

  module _ (v : ℕ) (in_v : v < vertices file) where
    directive_passed : in_order file (directive_fields file v) ≡ Ok tt
    unfolding vertex_fields
    directive_passed = passed_front file (directive_fields file v) _ (vertex_passed file passed v in_v)

    vertex_realigned : (b : ℕ) (x : Alignment) → directive file v ≡ Realign b x → Right file x
    unfolding directive alignment_at
    vertex_realigned b x e = by_test (eqb (directive_byte file v) 1) yes no
      where
        yes : eqb (directive_byte file v) 1 ≡ true → Right file x
        yes q =
            let d = directive_byte file v in
            let t : get_or file (vertex_at file v + 2) 0 < cond (eqb d 1) (templates file) 1 = ltb-true _ _ (passed_right_here file _ _ (behind file 2 (directive_fields file v) directive_passed)) in
            let u : get_or file (vertex_at file v + 3) 0 ≤ cond (eqb d 1) 1 0 = leb-true _ _ (passed_right_here file _ _ (behind file 3 (directive_fields file v) directive_passed)) in
            let u1 : get_or file (vertex_at file v + 3) 0 ≤ 1 = rw q at u in
            let is : alignment_at file (vertex_at file v + 2) ≡ x = cc (rw q at e) in
            let same : get_or file (vertex_at file v + 2 + 1) 0 ≡ get_or file (vertex_at file v + 3) 0 = ap (λ (i : ℕ). get_or file i 0) (add_assoc (vertex_at file v) 2 1) in
            subst (Right file) is (rw q at t, omega (arith, same, u1))

        no : eqb (directive_byte file v) 1 ≡ false → Right file x
        no q = by_test (eqb (directive_byte file v) 2)
            (λ p. absurd (let z : ◌≡◌ {A = ℕ} 0 1 = cc (rw (q, p) at e) in omega arith))
            (λ p. absurd (let z : ◌≡◌ {A = ℕ} 0 1 = cc (rw (q, p) at e) in omega arith))

    -- a redistribute has a template of the file
    pub vertex_redistributed : (t : ℕ) (m : Mapping) → directive file v ≡ Redistribute t m → t < templates file
    unfolding directive
    vertex_redistributed t m e = by_test (eqb (directive_byte file v) 1)
        (λ p. absurd (let z : ◌≡◌ {A = ℕ} 0 1 = cc (rw p at e) in omega arith))
        (λ p. by_test (eqb (directive_byte file v) 2) (yes p) (λ q. absurd (let z : ◌≡◌ {A = ℕ} 0 1 = cc (rw (p, q) at e) in omega arith)))
      where
        yes : eqb (directive_byte file v) 1 ≡ false → eqb (directive_byte file v) 2 ≡ true → t < templates file
        yes p q =
            let s : get_or file (vertex_at file v + 1) 0 < subjects file (directive_byte file v) = ltb-true _ _ (passed_right_here file _ _ (behind file 1 (directive_fields file v) directive_passed)) in
            let is : get_or file (vertex_at file v + 1) 0 ≡ t = cc (rw (p, q) at e) in
            subst (λ (n : ℕ). n < templates file) is (rw (p, q) at s)

    -- byte 0 is no directive
    pub silent : directive_byte file v ≡ 0 → directive file v ≡ Nothing
    unfolding directive
    silent e = rw e

    -- the entry and the exit have none
    pub silent_at : is_entry_or_exit file v ≡ true → directive_byte file v ≡ 0
    silent_at q =
        let d : directive_byte file v ≤ cond (is_entry_or_exit file v) 0 2 = leb-true _ _ (passed_right_here file _ _ directive_passed) in
        let e : directive_byte file v ≤ 0 = rw q at d in
        omega arith

    module _ (a : ℕ) (in_a : a < arrays file) where
      abbrev byte : ℕ
      byte = get_or file (reference_at file v a) 0

      reference_right : is_right_reference file v byte ≡ true
      unfolding vertex_fields
      reference_right =
          let back = passed_back file (given_fields file v) (reference_fields file v) (passed_back file (directive_fields file v) _ (vertex_passed file passed v in_v)) in
          passed_right_here file _ [] (passed_row file (λ a. byte_field file (reference_at file v a) (is_right_reference file v) ∷ []) (arrays file) back a in_a)

      -- 00 or a reference; 00 beside a directive, and in the rows of the entry and the exit
      reference_row : T (eqb byte 0 || is_reference (action_of byte))
      reference_row = weaker (eqb byte 0) (is_reference (action_of byte)) _ reference_right
        where
          weaker : (b c d : Bool) → (b || (c && d)) ≡ true → T (b || c)
          weaker true c d e = tt
          weaker false true d e = tt
          weaker false false d e = absurd (true≢false (sym e))

      pub reference_zero : (eqb (directive_byte file v) 0 && not (is_entry_or_exit file v)) ≡ false → byte ≡ 0
      reference_zero q = eqb-true byte 0 (alone (eqb byte 0) (is_reference (action_of byte)) _ reference_right q)
        where
          alone : (b c d : Bool) → (b || (c && d)) ≡ true → d ≡ false → b ≡ true
          alone true c d h q = refl
          alone false true d h q = absurd (true≢false (sym h ∙ q))
          alone false false d h q = h

  -- ---- edges

  -- within their limits, and behind the one before
  pub edge_facts : (i : ℕ) → i < edges file
      → ((edge_of file i).from < exit file) × (0 < (edge_of file i).to) × ((edge_of file i).to < vertices file) × (rises file i ≡ true)
  unfolding edge_fields
  edge_facts i h =
      let r = edge_passed file passed i h in
      let w = word file (edge_at file i + 2) in
      let f : (ltb 0 w && ltb w (vertices file)) ≡ true = passed_right_here file _ _ (behind file 1 (edge_fields file i) r) in (
        ltb-true _ _ (passed_right_here file _ _ r),
        ltb-true 0 w (and_left (ltb 0 w) (ltb w (vertices file)) f),
        ltb-true w (vertices file) (and_right (ltb 0 w) (ltb w (vertices file)) f),
        passed_right_here file _ _ (behind file 2 (edge_fields file i) r),
      )

  pub edges_size : length (edge_bytes file) ≡ 4 * edges file
  edges_size = rw length-drop (omega (arith, ends_there file passed))

  pub edge_from_lem : (i : ℕ) → edge_from (edge_bytes file) i ≡ (edge_of file i).from
  edge_from_lem i = word-drop (edges_at file) file (4 * i)

  pub edge_to_is : (i : ℕ) → edge_to (edge_bytes file) i ≡ (edge_of file i).to
  edge_to_is i = word-drop (edges_at file) file (4 * i + 2) ∙ ap (word file) (omega arith)

  -- of an edge in the bytes
  facts : (i : ℕ) → i < edge_count (edge_bytes file) → ((edge_of file i).from < exit file) × (0 < (edge_of file i).to) × ((edge_of file i).to < vertices file) × (rises file i ≡ true)
  facts i h = edge_facts i (omega (arith, edges_size))

  -- ---- the whole

  pub formed : Formed file
  formed = record {
    some_vertex = omega (arith, limits.two_vertices);
    few_templates = limits.few_templates;
    aligned = array_aligned;
    realigned = λ v b x in_v. vertex_realigned v in_v b x;
    ends = record {
      froms = λ i h. omega (arith, edge_from_lem i, (facts i h).0);
      tos = λ i h. omega (arith, edge_to_is i, (facts i h).2);
    };
    none_enters = λ v e. omega (arith, e.enters, edge_to_is e.place, (facts e.place e.listed).1);
    none_leaves = λ v e. omega (arith, e.leaves, edge_from_lem e.place, (facts e.place e.listed).0);
    entry_silent = silent entry (omega (arith, limits.two_vertices)) (silent_at entry (omega (arith, limits.two_vertices)) refl);
    references = λ v a in_v in_a. reference_row v in_v a in_a;
  }
