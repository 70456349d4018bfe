-- The converted routine of an accepted file passes 10 to 19: its rows have references or remappings and no calls.
-- Assumes nothing.
use Rattle.std.specs.Prelude.{Ok, Option, Some, None}
use mathlib.Core.Path.{◌≡◌, refl, sym, ap, ap₂, subst, ◌∙◌}
use mathlib.Core.Bool.{Bool, true, false, not, ◌&&◌, ◌||◌, and-false}
use mathlib.Core.List.{List}
use mathlib.Core.Logic.{◌⊎◌, inl, inr, ⊎_elim}
use Prim.Native.Nat.{ℕ, zero, suc, ◌+◌, ◌-◌, ◌*◌, ◌≤◌, ◌<◌}
use native.Mathlib.Omega.{arith}
use borrow.Author.Tests.{eq-eqb, ne_eqb, lt-ltb, le-leb, eqb-true}
use lib.Dec.{T, eqb, lit<}
use lib.ListN.{length, get_or}
use Rattle.flow.specs.Paths.{edge_from, edge_to}
use Rattle.labels.proofs.Rules.Proper as P
use Rattle.routine.proofs.Accepted.{accepts}
use Rattle.routine.proofs.Form.{few_actions}
use Rattle.routine.proofs.Actions.{known_no_call, differ-none, differ-self, reference_family, remap_family}
use Rattle.routine.specs.Actions as A
use Rattle.routine.specs.Actions.{action_of, action_byte, is_known, remaps_below, family_of, differ, is_at_entry_or_exit, is_mixed_in_row, action_check}
use Rattle.routine.specs.Arrays.{record_check, array_check}
use Rattle.routine.specs.Edges as E
use Rattle.routine.specs.Edges.{before, edge_check}
use Rattle.routine.specs.Layout as R
use Rattle.routine.specs.Layout.{check10, check11, check12, check13, header_of, record_at}
use Rattle.routine.specs.Reader.{form_check, read_of, Laid, ChecksPassed}
use Rattle.routine.specs.declared.action.Access.{Access}
use Rattle.routine.specs.declared.action.Family.{Family}
use Rattle.routine.specs.declared.action.Family.TheVariants as F
use Rattle.routine.specs.declared.action.Action.TheVariants.{Reference, Remap}
use Rattle.routine.specs.declared.array.ArrayRecord.{ArrayRecord}
use Rattle.sets.specs.Sets.{width}
use Rattle.words.proofs.Sums.{none_below}
use Rattle.words.proofs.Tests.{by_test}
use Rattle.words.specs.Words.{word}
use Rattle.directives.specs.Fields.{directive_byte, is_entry_or_exit, edge_of, rises, check40}
use Rattle.directives.specs.Layout.{arrays, vertices, edges, entry, array_at, reference_at}
use Rattle.directives.specs.declared.spread.Mapping.{Mapping}
use Rattle.directives.specs.declared.vertex.Directive.{Directive}
use Rattle.mappings.specs.Along.{state_by, remaps_in}
use Rattle.mappings.specs.Converted.{versions, head_bytes, converted_by}
use Rattle.mappings.specs.Rules.{initial_mapping}
use Rattle.mappings.specs.Theorem.{Accepted}
use Rattle.mappings.proofs.Bytes.{in_head, arrays_are, vertices_are, edges_are, exit_is, array_is, byte_is, edge_bytes_lem, ends_there}
use Rattle.mappings.proofs.Formed.{limits, kind_known, reference_zero, silent, silent_at, edge_facts, edges_size, edge_from_lem, edge_to_is}
use Rattle.mappings.proofs.Lists.{numbered_some}
use Rattle.mappings.proofs.Theorem.{stays, byte_either, remaps_to}

-- ---- a byte of a row of family f, for an array of n versions

record RightByte (n : ℕ) (f : Option Family) (b : ℕ) : Type 0 where
  known : is_known (action_of b) ≡ true
  below : remaps_below (action_of b) n ≡ true
  family : (family_of b ≡ None) ⊎ (family_of b ≡ f)

module _ (n : ℕ) {b : ℕ} where
  nothing_right : (f : Option Family) → b ≡ 0 → RightByte n f b
  unfolding action_of
  nothing_right f e = subst (RightByte n f) (sym e) (record { known = refl; below = refl; family = inl refl })

  reference_right : {r : Access} → action_of b ≡ Reference r → RightByte n (Some F.Reference) b
  reference_right e = record { known = rw e refl; below = rw e refl; family = inr (reference_family b e) }

  remap_right : {k : ℕ} → k < n → action_of b ≡ Remap k → RightByte n (Some F.Remapping) b
  remap_right {k} h e = record { known = rw e refl; below = rw e (lt-ltb k n h); family = inr (remap_family b e) }

-- two bytes of one row do not differ
one_family : (f x y : Option Family) → (x ≡ None) ⊎ (x ≡ f) → (y ≡ None) ⊎ (y ≡ f) → differ x y ≡ false
one_family f x y p q = ⊎_elim
    (λ (e : x ≡ None). rw e refl)
    (λ (e : x ≡ f). ⊎_elim
    (λ (d : y ≡ None). rw d (differ-none x))
    (λ (d : y ≡ f). rw (e, d) (differ-self f))
    q)
    p

module _ (file : List ℕ) (passed : check40 file ≡ Ok tt) {given : ℕ → ℕ → List Mapping} (accepted : Accepted file given) where
  abbrev routine : List ℕ
  routine = converted_by file given

  laid : Laid routine
  laid =
      let l = limits file passed in
      record {
        limits = record {
          some_array = omega (arith, arrays_are file given, l.some_array);
          few_arrays = omega (arith, arrays_are file given, l.few_arrays);
          two_vertices = omega (arith, vertices_are file given, l.two_vertices);
          few_vertices = omega (arith, vertices_are file given, l.few_vertices);
          few_edges = omega (arith, edges_are file given, l.few_edges);
        };
        ends = ends_there file given (edges_size file passed);
      }

  -- ---- arrays

  array_passes : (a : ℕ) → a < arrays file → array_check routine a ≡ Ok tt
  unfolding array_check
  array_passes a h =
      ap (λ (r : ArrayRecord). record_check r (record_at a)) (array_is file given a h)
      ∙ rw (
        le-leb (get_or file (array_at file a) 0) 3 (kind_known file passed a h),
        le-leb 1 (length (versions file given a)) (numbered_some (initial_mapping file a) (given a) (vertices file)),
        le-leb (length (versions file given a)) width (accepted.few a h),
      ) refl

  -- ---- actions

  module _ (v : ℕ) (in_v : v < vertices file) where
    -- a vertex without directive keeps its bytes
    kept : directive_byte file v ≡ 0 → (a : ℕ) → a < arrays file → action_byte routine a v ≡ get_or file (reference_at file v a) 0
    kept e a in_a =
        byte_is file given a v in_a in_v
        ∙ ⊎_elim
        (λ p. p.1)
        (λ p. absurd (subst (λ (d : Directive). T (remaps_in (state_by file p.1.before) d a)) (silent file passed v in_v e) p.1.remaps))
        (byte_either accepted a in_a v in_v)

    abbrev RightRow : Option Family → Type 0
    RightRow f = (a : ℕ) → a < arrays file → RightByte (length (versions file given a)) f (action_byte routine a v)

    -- it has references; one with a directive has remappings
    kept_row : directive_byte file v ≡ 0 → RightRow (Some F.Reference)
    kept_row e a in_a =
        subst (RightByte (length (versions file given a)) (Some F.Reference)) (sym (kept e a in_a))
        (⊎_elim (nothing_right _ (Some F.Reference)) (λ p. reference_right _ p.1) (stays (get_or file (reference_at file v a) 0) (accepted.formed.references v a in_v in_a)))

    remapped_row : eqb (directive_byte file v) 0 ≡ false → RightRow (Some F.Remapping)
    remapped_row q a in_a =
        subst (RightByte (length (versions file given a)) (Some F.Remapping)) (sym (byte_is file given a v in_a in_v))
        (⊎_elim
        (λ p. nothing_right _ (Some F.Remapping) (p.1 ∙ reference_zero file passed v in_v a in_a (ap (λ (b : Bool). b && not (is_entry_or_exit file v)) q)))
        (λ p. remap_right _ p.2.0 (ap action_of p.3 ∙ remaps_to accepted a in_a v in_v p.2))
        (byte_either accepted a in_a v in_v))

    right_row : (f : Option Family) × RightRow f
    right_row = by_test (eqb (directive_byte file v) 0) (λ q. (Some F.Reference, kept_row (eqb-true _ 0 q))) (λ q. (Some F.Remapping, remapped_row q))

    -- the rows of the entry and the exit are all 00
    zero_there : (a : ℕ) → a < arrays file → is_at_entry_or_exit routine a v ≡ false
    zero_there a in_a = by_test (is_entry_or_exit file v)
        (λ q. let e : action_byte routine a v ≡ 0 =
        kept (silent_at file passed v in_v q) a in_a
        ∙ reference_zero file passed v in_v a in_a (ap (λ (b : Bool). eqb (directive_byte file v) 0 && not b) q ∙ and-false (eqb (directive_byte file v) 0)) in
        ap (λ (b : Bool). A.is_entry_or_exit routine v && not b) (eq-eqb (action_byte routine a v) 0 e) ∙ and-false (A.is_entry_or_exit routine v))
        (λ q. ap (λ (b : Bool). b && not (eqb (action_byte routine a v) 0)) (ap (λ (n : ℕ). eqb v entry || eqb v n) (exit_is file given) ∙ q))

    action-passes : (a : ℕ) → a < arrays file → action_check routine a v ≡ Ok tt
    unfolding action_check
    action-passes a in_a =
        let (f, row) = right_row in
        let r = row a in_a in
        let b = action_byte routine a v in
        let no_call = known_no_call b r.known in
        let unmixed : is_mixed_in_row routine a v ≡ false = none_below _ a (λ c l. one_family f _ _ r.family (row c (omega arith)).family) in
        let versions_are = ap (λ (r : ArrayRecord). r.versions) (array_is file given a in_a) in
        rw (unmixed, zero_there a in_a, r.known, no_call, versions_are, r.below) refl

  -- ---- edges

  from_is : (i : ℕ) → (E.edge_of routine i).from ≡ (edge_of file i).from
  from_is i = sym (P.edge_from_lem routine i) ∙ ap (λ (s : List ℕ). edge_from s i) (edge_bytes_lem file given) ∙ edge_from_lem file passed i

  to_is : (i : ℕ) → (E.edge_of routine i).to ≡ (edge_of file i).to
  to_is i = sym (P.edge_to_is routine i) ∙ ap (λ (s : List ℕ). edge_to s i) (edge_bytes_lem file given) ∙ edge_to_is file passed i

  rises_is : (i : ℕ) → E.rises routine i ≡ rises file i
  unfolding E.rises rises
  rises_is zero = refl
  rises_is (suc i) = rw (from_is i, to_is i, from_is (suc i), to_is (suc i)) refl

  edge-passes : (i : ℕ) → i < edges file → edge_check routine i ≡ Ok tt
  unfolding edge_check
  edge-passes i h =
      let f = edge_facts file passed i h in
      let x = (edge_of file i).from in
      let y = (edge_of file i).to in
      rw (
        from_is i,
        to_is i,
        vertices_are file given,
        lt-ltb x (vertices file) (omega (arith, f.0)),
        lt-ltb y (vertices file) f.2,
        ne_eqb y 0 (λ e. omega (arith, f.1)),
        ne_eqb x (vertices file - 1) (λ e. omega (arith, f.0)),
        rises_is i,
        f.3,
      ) refl

  -- ---- the whole

  passes : ChecksPassed routine
  passes = record {
    laid = laid;
    arrays_pass = λ a h. array_passes a (omega (arith, arrays_are file given));
    actions_pass = λ a v in_a in_v. action-passes v (omega (arith, vertices_are file given)) a (omega (arith, arrays_are file given));
    edges_pass = λ i h. edge-passes i (omega (arith, edges_are file given));
  }

  offset : (i n : ℕ) → i + 1 < 18 → get_or (head_bytes file given) i 0 + 256 * get_or (head_bytes file given) (i + 1) 0 ≡ n → word routine i ≡ n
  unfolding word
  offset i n h e = ap₂ (λ (x y : ℕ). x + 256 * y) (in_head file given i (omega arith)) (in_head file given (i + 1) h) ∙ e

  form : form_check routine ≡ Ok tt
  unfolding form_check check10 check11 check12 check13
  form =
      let l = limits file passed in
      rw (
        le-leb 18 (length routine) (omega (arith, laid.ends)),
        in_head file given 0 (lit< tt),
        in_head file given 1 (lit< tt),
        in_head file given 2 (lit< tt),
        in_head file given 3 (lit< tt),
        offset 4 1 (lit< tt) refl,
        offset 6 18 (lit< tt) refl,
        offset 10 (18 + 4 * arrays file) (lit< tt) (omega arith),
        offset 14 (18 + 4 * arrays file + vertices file * arrays file) (lit< tt) (omega arith),
        eq-eqb (length routine) (R.end_at routine) laid.ends,
        arrays_are file given,
        vertices_are file given,
        edges_are file given,
        le-leb 1 (arrays file) l.some_array,
        le-leb (arrays file) 8 l.few_arrays,
        le-leb 2 (vertices file) l.two_vertices,
        le-leb (vertices file) 256 l.few_vertices,
        le-leb 0 (edges file) (omega arith),
        le-leb (edges file) 1024 l.few_edges,
        eq-eqb (18 + 4 * arrays file) (18 + 4 * arrays file) refl,
        eq-eqb (18 + 4 * arrays file + vertices file * arrays file) (18 + 4 * arrays file + vertices file * arrays file) refl,
      ) refl

  -- its length: at most 8 arrays, 256 vertices and 1,024 edges
  pub converted_fits : length routine ≤ 6194
  converted_fits = omega (arith, laid.ends, laid.limits.few_arrays, few_actions laid.limits, edges_are file given, (limits file passed).few_edges)

  -- the reader accepts it
  pub converted_read : read_of routine ≡ Ok (header_of routine)
  converted_read = accepts routine form passes
