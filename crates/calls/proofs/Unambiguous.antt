-- 21 is asked of the file with calls as references; where it passes, the expanded routine has no ambiguous reference either: what is brought
-- to a reference there is brought to it in the file, and to the reference of a call only the version in which it passes the array.
-- Assumes nothing.
use Rattle.std.specs.Prelude.{Ok}
use mathlib.Core.Path.{◌≡◌, refl, sym, ap, subst, ◌∙◌}
use mathlib.Core.Bool.{Bool, true, false, cond}
use mathlib.Core.List.{List}
use Prim.Native.Nat.{ℕ, ◌<◌}
use native.Mathlib.Omega.{arith}
use lib.Dec.{T}
use Rattle.labels.proofs.Rules.Checks.{check21_passed}
use Rattle.labels.proofs.Rules.Proper.{proper}
use Rattle.labels.specs.Ambiguity.{Ambiguous}
use Rattle.labels.specs.Checks.{check21}
use Rattle.labels.specs.Events.{event}
use Rattle.routine.specs.Actions.{called_version, action_byte, is_reference}
use Rattle.routine.specs.Layout.{arrays}
use Rattle.routine.specs.Reader.{WellFormed}
use Rattle.routine.specs.declared.action.Action.{Action}
use Rattle.routine.specs.declared.action.Action.TheVariants.{Nothing, Remap}
use Rattle.words.proofs.Tests.{by_test}
use Rattle.calls.specs.Calls.{passes}
use Rattle.calls.specs.Expanded.{expanded}
use Rattle.calls.specs.Interfaces.{Expandable}
use Rattle.calls.specs.Parts.{Part, plain, passing, calling, returning, beyond, expanded_vertices, part_at}
use Rattle.calls.specs.Referring.{referring, return_version}
use Rattle.calls.proofs.Bytes.{arrays_are, vertices_are}
use Rattle.calls.proofs.Carried.{Carries, brought}
use Rattle.calls.proofs.Events.{plain_event, three_vertices}
use Rattle.calls.proofs.Formed.{expanded_formed}
use Rattle.calls.proofs.Parts.{size_is, standing}
use Rattle.calls.proofs.Referring.{same_arrays, same_vertices, referring_formed, row_refers}

remap_unread : (b : Bool) (k : ℕ) → is_reference (cond b (Remap k) Nothing) ≡ false
remap_unread true k = refl
remap_unread false k = refl

module _ (file : List ℕ) (can : Expandable file) (sure : check21 (referring file) ≡ Ok tt) where
  w : WellFormed file
  w = can.well

  module _ {a x : ℕ} (in_a : a < arrays file) (two : Ambiguous (expanded file) a x) where
    -- both versions, on the way to this vertex
    carries : (p : Part) → part_at file x ≡ p → Carries file can in_a p two.first × Carries file can in_a p two.second
    carries p e = (
      subst (λ (p : Part). Carries file can in_a p two.first) e (brought file can in_a two.brings_first),
      subst (λ (p : Part). Carries file can in_a p two.second) e (brought file can in_a two.brings_second),
    )

    -- a remapping is no reference
    as_remap : (b : Bool) (k : ℕ) → event (expanded file) a x ≡ cond b (Remap k) Nothing → ⊥
    as_remap b k e = subst T (ap is_reference e ∙ remap_unread b k) two.reference

    -- a vertex that is no call is ambiguous in the file
    as_plain : (v : ℕ) → part_at file x ≡ plain v → ⊥
    as_plain v p =
        let s = standing file x p in
        let same = ap (event (expanded file) a) s.2 ∙ plain_event file w in_a s.0 s.1 ∙ sym (row_refers file w in_a s.0 s.1) in
        let both = carries (plain v) p in
        (check21_passed (referring file) (proper (referring file) (referring_formed file w can.interfaces))).0 sure v a
        (omega (arith, same_vertices file w.laid, s.0)) (omega (arith, same_arrays file w.laid))
        (record {
          reference = subst (λ (y : Action). T (is_reference y)) same two.reference;
          first = two.first;
          second = two.second;
          differ = two.differ;
          brings_first = both.0;
          brings_second = both.1;
        })

    -- to the reference of a call one version is brought
    as_calling : (v : ℕ) → part_at file x ≡ calling v → ⊥
    as_calling v p =
        let s = standing file x p in
        let second = ap (event (expanded file) a) s.2 ∙ (three_vertices file w in_a s.0 can.interfaces s.1).second in
        let both = carries (calling v) p in
        by_test (passes file a v)
        (λ passed. two.differ (both.0.called passed ∙ sym (both.1.called passed)))
        (λ kept. subst T (ap is_reference (rw kept at second)) two.reference)

  pub expanded_unambiguous : check21 (expanded file) ≡ Ok tt
  expanded_unambiguous = (check21_passed (expanded file) (proper (expanded file) (expanded_formed file can))).1 (λ x a in-x in_a two.
      go a x (omega (arith, arrays_are file w.laid)) (omega (arith, vertices_are file w.laid)) (part_at file x) refl two)
    where
      go : (a x : ℕ) → a < arrays file → x < expanded_vertices file → (p : Part) → part_at file x ≡ p → Ambiguous (expanded file) a x → ⊥
      go a x in_a in-x (plain v) p two = as_plain in_a two v p
      go a x in_a in-x (passing v) p two =
          let s = standing file x p in
          as_remap in_a two (passes file a v) (called_version (action_byte file a v)) (ap (event (expanded file) a) s.2 ∙ (three_vertices file w in_a s.0 can.interfaces s.1).first)
      go a x in_a in-x (calling v) p two = as_calling in_a two v p
      go a x in_a in-x (returning v) p two =
          let s = standing file x p in
          as_remap in_a two (passes file a v) (return_version file a v) (ap (event (expanded file) a) s.2 ∙ (three_vertices file w in_a s.0 can.interfaces s.1).third)
      go a x in_a in-x beyond p two = omega (arith, standing file x p, size_is file)
