-- What the vertices of the expanded routine do with an array.
-- Assumes nothing.
use mathlib.Core.Path.{◌≡◌, sym, ap, ap₂, ◌∙◌}
use mathlib.Core.Bool.{Bool, true, false, ◌&&◌, ◌||◌, cond}
use mathlib.Core.List.{List}
use Prim.Native.Nat.{ℕ, suc, ◌+◌, ◌<◌}
use native.Mathlib.Decide.{dec_lt}
use native.Mathlib.Nat.{add-zero}
use native.Mathlib.Omega.{arith}
use borrow.Author.Tests.{eqb-true, eqb-false, eq-eqb, ne_eqb}
use lib.Dec.{eqb}
use Rattle.labels.proofs.Rules.Events.{inner_event}
use Rattle.labels.specs.Events.{event}
use Rattle.routine.specs.Actions.{action_of, called_version, action_byte, action}
use Rattle.routine.specs.Arrays.{array_of, is_out_or_inout}
use Rattle.routine.specs.Layout.{arrays, vertices, entry, exit}
use Rattle.routine.specs.Reader.{WellFormed}
use Rattle.routine.specs.declared.action.Action.{Action}
use Rattle.routine.specs.declared.action.Action.TheVariants.{Nothing, Remap}
use Rattle.routine.specs.declared.array.ArrayRecord.{ArrayRecord}
use Rattle.words.proofs.Tests.{by_test}
use Rattle.calls.specs.Calls.{intent_byte, passes, is_call_row}
use Rattle.calls.specs.Expands.{ThreeVertices}
use Rattle.calls.specs.Expanded.{expanded}
use Rattle.calls.specs.Interfaces.{Interfaces}
use Rattle.calls.specs.Parts.{plain, passing, calling, returning, expanded_vertices, part_at, first_vertex_of}
use Rattle.calls.specs.Referring.{return_version}
use Rattle.calls.proofs.Actions.{remap_if, intent_if}
use Rattle.calls.proofs.Arriving.{return_below}
use Rattle.calls.proofs.Bytes.{vertices_are, array_is, action_is}
use Rattle.calls.proofs.Parts.{first_zero, first_next, call_last, plain_last, size_is, last_below, first_rises, plain_at, passing_at, calling_at, returning_at}
use Rattle.calls.proofs.Referring.{exit_no_call, call_not-entry, call_not-exit}

-- different vertices of the file begin at different places
first_eqb : (file : List ℕ) (u v : ℕ) → eqb (first_vertex_of file u) (first_vertex_of file v) ≡ eqb u v
first_eqb file u v = by_test (eqb u v)
    (λ e. eq-eqb (first_vertex_of file u) (first_vertex_of file v) (ap (first_vertex_of file) (eqb-true u v e)) ∙ sym e)
    (λ e. ne_eqb (first_vertex_of file u) (first_vertex_of file v) (λ f. elim (dec_lt u v) [
      | yes l ↦ omega (arith, first_rises file v u l)
      | no g ↦ elim (dec_lt v u) [ yes l ↦ omega (arith, first_rises file u v l) | no h ↦ eqb-false u v e (omega arith) ]
    ]) ∙ sym e)

module _ (file : List ℕ) (w : WellFormed file) where
  -- ---- entry and exit

  -- the exit is the first of those that the file's exit becomes, and the last of all
  pub exit_is : exit (expanded file) ≡ first_vertex_of file (exit file)
  exit_is =
      let n : vertices file ≡ suc (exit file) = omega (arith, w.laid.limits.two_vertices) in
      omega (arith, vertices_are file w.laid, size_is file, ap (first_vertex_of file) n, first_next file (exit file), plain_last file (exit file) (exit_no_call file w))

  pub size_exit : expanded_vertices file ≡ exit (expanded file) + 1
  size_exit = omega (arith, vertices_are file w.laid, exit_is, size_is file, first_rises file (vertices file) (exit file) (omega (arith, w.laid.limits.two_vertices)))

  pub first_below : {v : ℕ} → v < vertices file → first_vertex_of file v < expanded_vertices file
  first_below {v} in_v = omega (arith, size_is file, first_rises file (vertices file) v in_v)

  -- the three vertices of a call stand between them
  pub call_inner : {v : ℕ} → v < vertices file → is_call_row file v ≡ true → (0 < first_vertex_of file v) × (first_vertex_of file v + 2 < exit (expanded file))
  call_inner {v} in_v call =
      let later : 0 < v = elim (dec_lt 0 v) [ yes l ↦ l | no f ↦ absurd (call_not-entry file w call (omega arith)) ] in
      let earlier : v < exit file = elim (dec_lt v (exit file)) [ yes l ↦ l | no f ↦ absurd (call_not-exit file w call (omega arith)) ] in
      omega (arith, first_rises file v 0 later, exit_is, last_below file (exit file) v earlier, call_last file v call)

  module _ {a x : ℕ} (in_a : a < arrays file) (in-x : x < expanded_vertices file) where
    -- ---- actions, by what stands at x

    pub plain_does : {v : ℕ} → part_at file x ≡ plain v → action (expanded file) a x ≡ action file a v
    unfolding action
    plain_does = action_is file w.laid a x in_a in-x

    pub calling_does : {v : ℕ} → part_at file x ≡ calling v → action (expanded file) a x ≡ cond (passes file a v) (action_of (intent_byte (action_byte file a v))) Nothing
    calling_does {v} e = action_is file w.laid a x in_a in-x e ∙ intent_if (passes file a v) (action_byte file a v)

    module _ (interfaces : Interfaces file) {v : ℕ} (in_v : v < vertices file) where
      pub passing_does : part_at file x ≡ passing v → action (expanded file) a x ≡ cond (passes file a v) (Remap (called_version (action_byte file a v))) Nothing
      passing_does e =
          action_is file w.laid a x in_a in-x e
          ∙ remap_if (passes file a v) (called_version (action_byte file a v)) (λ p. omega (arith, interfaces.called_below a v in_a in_v p, (w.array_limits in_a).few_versions))

      pub returning_does : part_at file x ≡ returning v → action (expanded file) a x ≡ cond (passes file a v) (Remap (return_version file a v)) Nothing
      returning_does e = action_is file w.laid a x in_a in-x e ∙ remap_if (passes file a v) (return_version file a v) (λ _. return_below file w interfaces in_a v)

  -- ---- events

  module _ {a v : ℕ} (in_a : a < arrays file) (in_v : v < vertices file) where
    -- a vertex that is no call does what it did
    pub plain_event : is_call_row file v ≡ false → event (expanded file) a (first_vertex_of file v) ≡ event file a v
    unfolding event
    plain_event row =
        ap₂ (λ (p q : Bool). shape p q (array_of (expanded file) a) (action (expanded file) a (first_vertex_of file v)))
        (ap (eqb (first_vertex_of file v)) (sym (first_zero file)) ∙ first_eqb file v entry)
        (ap (eqb (first_vertex_of file v)) exit_is ∙ first_eqb file v (exit file))
        ∙ ap₂ (shape (eqb v entry) (eqb v (exit file))) (array_is file w.laid a in_a) (plain_does in_a (first_below in_v) (plain_at file in_v row))
      where
        shape : Bool → Bool → ArrayRecord → Action → Action
        shape p q r x = cond (p || (q && is_out_or_inout r.kind)) (Remap r.initial) x

    -- and a call is three vertices
    pub three_vertices : Interfaces file → is_call_row file v ≡ true → ThreeVertices file a v
    three_vertices interfaces call =
        record {
          first = ap (event (expanded file) a) (sym (add-zero (first_vertex_of file v))) ∙ inner 0 (omega arith)
              ∙ ap (action (expanded file) a) (add-zero (first_vertex_of file v)) ∙ passing_does in_a (first_below in_v) interfaces in_v (passing_at file in_v call);
          second = inner 1 (omega arith) ∙ calling_does in_a (below 1 (omega arith)) (calling_at file in_v call);
          third = inner 2 (omega arith) ∙ returning_does in_a (below 2 (omega arith)) interfaces in_v (returning_at file in_v call);
        }
      where
        below : (j : ℕ) → j < 3 → first_vertex_of file v + j < expanded_vertices file
        below j h = omega (arith, call_inner in_v call, size_exit)

        inner : (j : ℕ) → j < 3 → event (expanded file) a (first_vertex_of file v + j) ≡ action (expanded file) a (first_vertex_of file v + j)
        inner j h =
            inner_event (expanded file) a (first_vertex_of file v + j)
            (ne_eqb (first_vertex_of file v + j) entry (λ e. omega (arith, call_inner in_v call)))
            (ne_eqb (first_vertex_of file v + j) (exit (expanded file)) (λ e. omega (arith, call_inner in_v call)))
