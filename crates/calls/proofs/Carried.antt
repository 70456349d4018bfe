-- Along a path through the expanded routine the source names, on the way to each vertex, a version that some path of the file brings there;
-- inside a call, the version in which it passes the array.
-- Assumes nothing.
use mathlib.Core.Path.{◌≡◌, refl, sym, ap, subst, ◌∙◌}
use mathlib.Core.Bool.{Bool, true, false, cond}
use mathlib.Core.List.{List, [], ◌∷◌, ◌++◌, append_assoc}
use mathlib.Core.Option.{Option, some}
use Prim.Native.Nat.{ℕ, ◌+◌, ◌<◌}
use native.Mathlib.Decide.{dec_lt}
use native.Mathlib.Omega.{arith}
use Rattle.flow.specs.Paths.{Edge, Joined}
use Rattle.labels.proofs.Rules.Brought.{named_after, last_after, last_entry, brings_first, brings_next}
use Rattle.labels.proofs.Rules.Proper.{ends_within_lem}
use Rattle.labels.specs.Ambiguity.{Brings}
use Rattle.labels.specs.Events.{edge_bytes, event, is_label, version}
use Rattle.labels.specs.Reaching.{ArrivesBy, last_version}
use Rattle.routine.specs.Actions.{called_version, action_of, action_byte}
use Rattle.routine.specs.Arrays.{initial}
use Rattle.routine.specs.Layout.{arrays, vertices, entry}
use Rattle.routine.specs.Reader.{WellFormed}
use Rattle.routine.specs.declared.action.Action.{Action}
use Rattle.routine.specs.declared.action.Action.TheVariants.{Nothing, Remap}
use Rattle.routine.specs.declared.array.ArrayRecord.{ArrayRecord}
use Rattle.words.proofs.Tests.{by_test}
use Rattle.calls.specs.Calls.{intent_byte, passes, is_call_row}
use Rattle.calls.specs.Expands.{Joins, enters, leaves, between}
use Rattle.calls.specs.Expanded.{expanded}
use Rattle.calls.specs.Interfaces.{Expandable}
use Rattle.calls.specs.Parts.{Part, plain, passing, calling, returning, beyond, part_at, first_vertex_of}
use Rattle.calls.specs.Referring.{referring, return_version}
use Rattle.calls.proofs.Actions.{intent_refers}
use Rattle.calls.proofs.Arriving.{return_brought}
use Rattle.calls.proofs.Bytes.{array_is}
use Rattle.calls.proofs.Joins.{edges_exact}
use Rattle.calls.proofs.Events.{plain_event, three_vertices, call_inner}
use Rattle.calls.proofs.Parts.{first_last, call_last, plain_last, first_rises, plain_at, passing_at, calling_at, returning_at}
use Rattle.calls.proofs.Referring.{same_array, same_edges, call_refers, row_refers}

-- a reference names what was named before
intent_names : (b : Bool) (c k : ℕ) → named_after (cond b (action_of (intent_byte c)) Nothing) k ≡ k
intent_names true c k = ap (λ (x : Action). named_after x k) (intent_refers c).1
intent_names false c k = refl

module _ (file : List ℕ) (can : Expandable file) {a : ℕ} (in_a : a < arrays file) where
  w : WellFormed file
  w = can.well

  -- some path of the file brings k to v
  abbrev pub Comes : ℕ → ℕ → Type 0
  Comes v k = Brings (referring file) a v k

  -- inside a call: the version in which it passes the array, whatever came; if it does not pass it, what came
  pub record Inside (v k : ℕ) : Type 0 where
    pub came : ℕ
    pub comes : Comes v came
    pub called : passes file a v ≡ true → k ≡ called_version (action_byte file a v)
    pub kept : passes file a v ≡ false → came ≡ k

  -- what the source names on the way to a vertex of the expanded routine
  abbrev pub Carries : Part → ℕ → Type 0
  Carries (plain v) k = Comes v k
  Carries (passing v) k = Comes v k
  Carries (calling v) k = Inside v k
  Carries (returning v) k = Inside v k
  Carries beyond k = ⊥

  -- ---- an edge of the file

  module _ {v u : ℕ} (e : Edge (edge_bytes file) v u) where
    from_below : v < vertices file
    from_below = omega (arith, e.leaves, (ends_within_lem file w).froms e.place e.listed)

    to_below : u < vertices file
    to_below = omega (arith, e.enters, (ends_within_lem file w).tos e.place e.listed)

    refers_edge : Edge (edge_bytes (referring file)) v u
    refers_edge = subst (λ (es : List ℕ). Edge es v u) (sym (same_edges file w.laid)) e

    -- at the first vertex of u
    arrives : {k : ℕ} → Comes u k → Carries (part_at file (first_vertex_of file u)) k
    arrives {k} c = by_test (is_call_row file u)
        (λ call. subst (λ (p : Part). Carries p k) (sym (passing_at file to_below call)) c)
        (λ row. subst (λ (p : Part). Carries p k) (sym (plain_at file to_below row)) c)

    -- past a vertex that is no call
    past_plain : {k : ℕ} → is_call_row file v ≡ false → Comes v k → Comes u (named_after (event (expanded file) a (first_vertex_of file v)) k)
    past_plain {k} row c =
        subst (λ (x : Action). Comes u (named_after x k)) (row_refers file w in_a from_below row ∙ sym (plain_event file w in_a from_below row))
        (brings_next (referring file) a c refers_edge)

    -- past a call
    past_call : {k : ℕ} → is_call_row file v ≡ true → Inside v k → Comes u (named_after (event (expanded file) a (first_vertex_of file v + 2)) k)
    past_call {k} call i =
        subst (λ (x : Action). Comes u (named_after x k)) (sym (three_vertices file w in_a from_below can.interfaces call).third)
        (go (passes file a v) refl)
      where
        -- the call is no label of the file
        on : {j : ℕ} → Comes v j → Comes u j
        on {j} c = subst (Comes u) (ap (λ (x : Action). named_after x j) (call_refers file w in_a from_below can.interfaces call) ∙ intent_names (passes file a v) (action_byte file a v) j)
            (brings_next (referring file) a c refers_edge)

        go : (b : Bool) → passes file a v ≡ b → Comes u (named_after (cond b (Remap (return_version file a v)) Nothing) k)
        go true p = on (return_brought file w can.interfaces in_a v i.comes)
        go false p = on (subst (Comes v) (i.kept p) i.comes)

  -- ---- an edge of the expanded routine

  carried : {x y : ℕ} (k : ℕ) → Joins file x y → Carries (part_at file x) k → Carries (part_at file y) (named_after (event (expanded file) a x) k)
  carried k (enters {v} in_v call) h =
      let first = (three_vertices file w in_a in_v can.interfaces call).first in
      subst (λ (p : Part). Carries p (named_after (event (expanded file) a (first_vertex_of file v)) k)) (sym (calling_at file in_v call))
      (record {
        came = k;
        comes = subst (λ (p : Part). Carries p k) (passing_at file in_v call) h;
        called = λ p. ap (λ (x : Action). named_after x k) (rw p at first);
        kept = λ n. sym (ap (λ (x : Action). named_after x k) (rw n at first));
      })
  carried k (leaves {v} in_v call) h =
      let i = subst (λ (p : Part). Carries p k) (calling_at file in_v call) h in
      let same : named_after (event (expanded file) a (first_vertex_of file v + 1)) k ≡ k =
      ap (λ (x : Action). named_after x k) (three_vertices file w in_a in_v can.interfaces call).second ∙ intent_names (passes file a v) (action_byte file a v) k in
      subst (λ (p : Part). Carries p (named_after (event (expanded file) a (first_vertex_of file v + 1)) k)) (sym (returning_at file in_v call))
      (subst (Inside v) (sym same) i)
  carried k (between {v} {u} e) h = arrives e (by_test (is_call_row file v)
      (λ call.
      let last = call_last file v call in
      subst (λ (x : ℕ). Comes u (named_after (event (expanded file) a x) k)) (sym last) (past_call e call (subst (λ (p : Part). Carries p k) (ap (part_at file) last ∙ returning_at file (from_below e) call) h)))
      (λ row.
      let last = plain_last file v row in
      subst (λ (x : ℕ). Comes u (named_after (event (expanded file) a x) k)) (sym last) (past_plain e row (subst (λ (p : Part). Carries p k) (ap (part_at file) last ∙ plain_at file (from_below e) row) h))))

  -- from the entry
  first_entry : (v : ℕ) → first_vertex_of file v ≡ 0 → v ≡ 0
  first_entry v e = elim (dec_lt 0 v) [ yes l ↦ absurd (omega (arith, first_rises file v 0 l)) | no f ↦ omega arith ]

  carried_first : {x y : ℕ} → x ≡ 0 → Joins file x y → Carries (part_at file y) (initial (expanded file) a)
  carried_first z (enters in_v call) = absurd (omega (arith, call_inner file w in_v call))
  carried_first z (leaves in_v call) = absurd (omega (arith, z))
  carried_first z (between {v} {u} e) =
      let at_entry : v ≡ entry = first_entry v (omega (arith, z, first_last file v)) in
      let same : initial (referring file) a ≡ initial (expanded file) a = ap (λ (r : ArrayRecord). r.initial) (same_array file w.laid a in_a ∙ sym (array_is file w.laid a in_a)) in
      arrives e (subst (Comes u) same (brings_first (referring file) a (subst (λ (x : ℕ). Edge (edge_bytes (referring file)) x u) at_entry (refers_edge e))))

  -- ---- a path from the entry

  -- the version that is named behind these vertices
  abbrev pub named : List ℕ → Option ℕ
  named us = last_version (is_label (expanded file) a) (version (expanded file) a) us

  -- behind us k is named, and the path goes on from x
  onward : (us : List ℕ) (x : ℕ) (vs : List ℕ) (y : ℕ) {k : ℕ} → named us ≡ some k → Carries (part_at file x) k → Joined (edge_bytes (expanded file)) x vs y
      → (j : ℕ) × (named (us ++ x ∷ vs) ≡ some j) × Carries (part_at file y) j
  onward us x [] y {k} e c joined = (
    named_after (event (expanded file) a x) k,
    last_after (expanded file) a us x e,
    carried k ((edges_exact file w x y).0 joined) c,
  )
  onward us x (v ∷ vs) y {k} e c joined =
      subst (λ (l : List ℕ). (j : ℕ) × (named l ≡ some j) × Carries (part_at file y) j) (append_assoc us (x ∷ []) (v ∷ vs))
      (onward (us ++ x ∷ []) v vs y (last_after (expanded file) a us x e) (carried k ((edges_exact file w x v).0 joined.0) c) joined.1)

  pub arrived : (u : ℕ) (us : List ℕ) (y : ℕ) → ArrivesBy (expanded file) (u ∷ us) y → (j : ℕ) × (named (u ∷ us) ≡ some j) × Carries (part_at file y) j
  arrived u us y (start, joined) = go us joined
    where
      first : named (u ∷ []) ≡ some (initial (expanded file) a)
      first = ap (λ (x : ℕ). named (x ∷ [])) start ∙ last_entry (expanded file) a

      go : (us : List ℕ) → Joined (edge_bytes (expanded file)) u us y → (j : ℕ) × (named (u ∷ us) ≡ some j) × Carries (part_at file y) j
      go [] e = (initial (expanded file) a, first, carried_first start ((edges_exact file w u y).0 e))
      go (v ∷ vs) e = onward (u ∷ []) v vs y first (carried_first start ((edges_exact file w u v).0 e.0)) e.1

  pub brought : {y k : ℕ} → Brings (expanded file) a y k → Carries (part_at file y) k
  brought {y} {k} b = go b.before b.path b.brings
    where
      go : (before : List ℕ) → ArrivesBy (expanded file) before y → named before ≡ some k → Carries (part_at file y) k
      go [] p e = absurd (let z : ◌≡◌ {A = ℕ} 0 1 = cc in omega arith)
      go (u ∷ us) p e =
          let r = arrived u us y p in
          let same : r.0 ≡ k = cc in
          subst (Carries (part_at file y)) same r.2
