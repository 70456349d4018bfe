-- Request 3: what the expanded routine is of its file; 20, 21 and demand 2 of the routine that is planned and run.
-- Assumes nothing.
use Rattle.std.specs.Prelude.{Ok}
use mathlib.Core.Path.{◌≡◌, refl, sym, ap, ap₂, subst, ◌∙◌}
use mathlib.Core.Bool.{Bool, true, false, ◌&&◌, cond}
use mathlib.Core.List.{List}
use mathlib.Core.Logic.Iff
use Prim.Native.Nat.{ℕ, ◌<◌}
use native.Mathlib.Omega.{arith}
use lib.Dec.{T}
use Rattle.labels.proofs.Rules.Checks.{check20_passed}
use Rattle.labels.proofs.Rules.Demand.{demand2}
use Rattle.labels.specs.Checks.{writes_in, check20, check21, programmer_check}
use Rattle.labels.specs.Demand.{Demand2}
use Rattle.labels.specs.Events.{event, is_write}
use Rattle.refusal.proofs.Checks.{passed_left, passed_right}
use Rattle.routine.specs.Actions.{called_version, action_byte}
use Rattle.routine.specs.Arrays.{kind, is_in}
use Rattle.routine.specs.Layout.{arrays, vertices}
use Rattle.routine.specs.Reader.{WellFormed}
use Rattle.routine.specs.declared.action.Action.{Action}
use Rattle.routine.specs.declared.action.Action.TheVariants.{Nothing, Remap}
use Rattle.routine.specs.declared.array.ArrayRecord.{ArrayRecord}
use Rattle.words.proofs.Tests.{at_cond, and_iff}
use Rattle.calls.specs.Calls.{passes, has_calls}
use Rattle.calls.specs.Expands.{Expands}
use Rattle.calls.specs.Expanded.{expanded, routine_of}
use Rattle.calls.specs.Interfaces.{Expandable}
use Rattle.calls.specs.Parts.{Part, plain, passing, calling, returning, beyond, expanded_vertices, part_at}
use Rattle.calls.specs.Referring.{referring, return_version}
use Rattle.calls.proofs.Bytes.{arrays_are, vertices_are, array_is}
use Rattle.calls.proofs.Joins.{edges_exact}
use Rattle.calls.proofs.Events.{plain_event, three_vertices}
use Rattle.calls.proofs.Formed.{expanded_formed}
use Rattle.calls.proofs.Parts.{size_is, standing}
use Rattle.calls.proofs.Referring.{same_arrays, same_vertices, same_array, no_calls_same, referring_formed, call_refers, row_refers}
use Rattle.calls.proofs.Unambiguous.{expanded_unambiguous}

remap_unwritten : (b : Bool) (k : ℕ) → is_write (cond b (Remap k) Nothing) ≡ false
remap_unwritten true k = refl
remap_unwritten false k = refl

module _ (file : List ℕ) (can : Expandable file) where
  w : WellFormed file
  w = can.well

  -- ---- what the expanded routine is

  pub expands : Expands file
  expands = record {
    formed = expanded_formed file can;
    arrays_same = arrays_are file w.laid;
    array_same = array_is file w.laid;
    vertices_are = vertices_are file w.laid;
    calls = λ a v in_a in_v. three_vertices file w in_a in_v can.interfaces;
    others = λ a v in_a in_v. plain_event file w in_a in_v;
    joins = edges_exact file w;
  }

  -- ---- 20 is asked of the file with calls as references

  module _ (unwritten : check20 (referring file) ≡ Ok tt) where
    module _ {a : ℕ} (in_a : a < arrays file) (x : ℕ) where
      -- what does as a vertex of the file does writes no in argument
      as_file : (v : ℕ) → v < vertices file → event (expanded file) a x ≡ event (referring file) a v → T (writes_in (expanded file) a x) → ⊥
      unfolding writes_in
      as_file v in_v e h =
          (check20_passed (referring file)).0 unwritten v a (omega (arith, same_vertices file w.laid)) (omega (arith, same_arrays file w.laid))
          (subst T (ap₂ (λ (r : ArrayRecord) (y : Action). is_in r.kind && is_write y) (array_is file w.laid a in_a ∙ sym (same_array file w.laid a in_a)) e) h)

      -- nor does a remapping
      as_remap : (b : Bool) (k : ℕ) → event (expanded file) a x ≡ cond b (Remap k) Nothing → T (writes_in (expanded file) a x) → ⊥
      unfolding writes_in
      as_remap b k e h =
          let writes : T (is_write (event (expanded file) a x)) = ((and_iff (is_in (kind (expanded file) a)) (is_write (event (expanded file) a x)) Iff.rfl Iff.rfl).0 h).1 in
          subst T (ap is_write e ∙ remap_unwritten b k) writes

    expanded_unwritten : check20 (expanded file) ≡ Ok tt
    expanded_unwritten = (check20_passed (expanded file)).1 (λ x a in-x in_a h.
        go a x (omega (arith, arrays_are file w.laid)) (omega (arith, vertices_are file w.laid)) (part_at file x) refl h)
      where
        go : (a x : ℕ) → a < arrays file → x < expanded_vertices file → (p : Part) → part_at file x ≡ p → T (writes_in (expanded file) a x) → ⊥
        go a x in_a in-x (plain v) p =
            let s = standing file x p in
            as_file in_a x v s.0 (ap (event (expanded file) a) s.2 ∙ plain_event file w in_a s.0 s.1 ∙ sym (row_refers file w in_a s.0 s.1))
        go a x in_a in-x (passing v) p =
            let s = standing file x p in
            as_remap in_a x (passes file a v) (called_version (action_byte file a v)) (ap (event (expanded file) a) s.2 ∙ (three_vertices file w in_a s.0 can.interfaces s.1).first)
        go a x in_a in-x (calling v) p =
            let s = standing file x p in
            as_file in_a x v s.0 (ap (event (expanded file) a) s.2 ∙ (three_vertices file w in_a s.0 can.interfaces s.1).second ∙ sym (call_refers file w in_a s.0 can.interfaces s.1))
        go a x in_a in-x (returning v) p =
            let s = standing file x p in
            as_remap in_a x (passes file a v) (return_version file a v) (ap (event (expanded file) a) s.2 ∙ (three_vertices file w in_a s.0 can.interfaces s.1).third)
        go a x in_a in-x beyond p = λ h. omega (arith, standing file x p, size_is file)

  -- ---- the routine that is planned and run: the file itself, if it has no call

  pub routine_formed : WellFormed (routine_of file)
  unfolding routine_of
  routine_formed = at_cond WellFormed (has_calls file) (λ _. expanded_formed file can) (λ _. w)

  pub demand2_calls : Demand2 (routine_of file) (referring file)
  demand2_calls = demand2 (routine_of file) (referring file) routine_formed (referring_formed file w can.interfaces)

  -- where 20 passes, the routine writes no in argument
  pub routine_unwritten : check20 (referring file) ≡ Ok tt → check20 (routine_of file) ≡ Ok tt
  unfolding routine_of
  routine_unwritten unwritten = at_cond (λ (s : List ℕ). check20 s ≡ Ok tt) (has_calls file)
      (λ _. expanded_unwritten unwritten)
      (λ none. ap check20 (sym (no_calls_same file w.laid none)) ∙ unwritten)

  -- where 21 passes, it has no ambiguous reference
  pub routine_unambiguous : check21 (referring file) ≡ Ok tt → check21 (routine_of file) ≡ Ok tt
  unfolding routine_of
  routine_unambiguous sure = at_cond (λ (s : List ℕ). check21 s ≡ Ok tt) (has_calls file)
      (λ _. expanded_unambiguous file can sure)
      (λ none. ap check21 (sym (no_calls_same file w.laid none)) ∙ sure)

  -- 20 and 21, passed by the file with calls as references, are passed by the routine
  pub routine_passes : programmer_check (referring file) ≡ Ok tt → programmer_check (routine_of file) ≡ Ok tt
  unfolding programmer_check
  routine_passes e =
      rw (routine_unwritten (passed_left (check20 (referring file)) _ e)) (routine_unambiguous (passed_right (check20 (referring file)) _ e))
