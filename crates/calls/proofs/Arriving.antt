-- The versions that arrive at a call, and the one to which it remaps an array back.
-- Assumes nothing.
use Rattle.std.specs.Prelude.{Ok}
use mathlib.Core.Path.{◌≡◌, sym, ap, subst, ◌∙◌}
use mathlib.Core.Bool.{true, true≢false}
use mathlib.Core.List.{List}
use Prim.Native.Nat.{ℕ, ◌^◌, ◌<◌}
use native.Mathlib.Decide.{dec_lt}
use native.Mathlib.Omega.{arith}
use borrow.Author.Tests.{eqb-true, eqb-false, ne_eqb}
use lib.Count.{count_trailing_zeros}
use lib.Dec.{T, eqb}
use lib.Ieee.Bits.{is_true}
use Rattle.labels.proofs.Rules.Brought.{brought_exact, brought_fits}
use Rattle.labels.proofs.Rules.Checks.{check21_passed}
use Rattle.labels.proofs.Rules.Proper.{Proper, proper}
use Rattle.labels.specs.Ambiguity.{Brings}
use Rattle.labels.specs.Checks.{check21}
use Rattle.labels.specs.Events.{event}
use Rattle.routine.specs.Actions.{action_byte, is_reference}
use Rattle.routine.specs.Layout.{arrays, vertices}
use Rattle.routine.specs.Reader.{WellFormed}
use Rattle.sets.proofs.Laws.{has_zero, lowest_has, lowest_below}
use Rattle.sets.specs.Sets.{has, width}
use Rattle.words.proofs.Tests.{at_cond, by_test}
use Rattle.calls.specs.Calls.{passes, is_call_row}
use Rattle.calls.specs.Interfaces.{Interfaces}
use Rattle.calls.specs.Referring.{referring, arriving, return_version}
use Rattle.calls.proofs.Actions.{intent_refers, no_call}
use Rattle.calls.proofs.Referring.{same_arrays, same_vertices, referring_formed, call_refers}

module _ (file : List ℕ) (w : WellFormed file) (interfaces : Interfaces file) where
  refers_proper : (a : ℕ) → a < arrays file → Proper (referring file) a
  refers_proper a in_a = proper (referring file) (referring_formed file w interfaces) a (omega (arith, same_arrays file w.laid))

  positive : {n : ℕ} → (n ≡ 0 → ⊥) → 0 < n
  positive {n} some = elim (dec_lt 0 n) [ yes l ↦ l | no f ↦ absurd (some (omega arith)) ]

  module _ {a : ℕ} (in_a : a < arrays file) (v : ℕ) where
    arriving_fits : arriving file a v < 2 ^ width
    unfolding arriving
    arriving_fits = brought_fits (referring file) a (refers_proper a in_a) v

    pub return_below : return_version file a v < width
    unfolding return_version
    return_below = at_cond (λ (k : ℕ). k < width) (eqb (arriving file a v) 0)
        (λ _. (proper file w a in_a).initial_fits)
        (λ e. lowest_below width (arriving file a v) (positive (eqb-false (arriving file a v) 0 e)) arriving_fits)

    -- the version back is one that arrives, if one does
    pub return_brought : {k : ℕ} → Brings (referring file) a v k → Brings (referring file) a v (return_version file a v)
    unfolding return_version arriving
    return_brought {k} b =
        let m = arriving file a v in
        let exact = brought_exact (referring file) a (refers_proper a in_a) v in
        let some : m ≡ 0 → ⊥ = λ e. true≢false (sym (is_true _ ((exact k).1 b)) ∙ ap (λ (n : ℕ). has n k) e ∙ has_zero k) in
        rw (ne_eqb m 0 some) ((exact (count_trailing_zeros width m)).0 (subst T (sym (lowest_has width m (positive some) arriving_fits)) tt))

    module _ (in_v : v < vertices file) (passed : passes file a v ≡ true) where
      pub pass_call : is_call_row file v ≡ true
      pass_call = by_test (is_call_row file v) (λ e. e) (λ e. absurd (true≢false (sym passed ∙ no_call file a v in_a e)))

      -- the call is a reference there
      refers : T (is_reference (event (referring file) a v))
      refers = rw (call_refers file w in_a in_v interfaces pass_call, passed, (intent_refers (action_byte file a v)).1) tt

      -- and the only one, where 21 passes
      pub return_only : check21 (referring file) ≡ Ok tt → {k : ℕ} → Brings (referring file) a v k → k ≡ return_version file a v
      return_only sure {k} b = by_test (eqb k (return_version file a v)) (eqb-true k (return_version file a v)) (λ e. absurd
          ((check21_passed (referring file) (proper (referring file) (referring_formed file w interfaces))).0 sure v a
          (omega (arith, same_vertices file w.laid)) (omega (arith, same_arrays file w.laid))
          (record { reference = refers; first = k; second = return_version file a v; differ = eqb-false k (return_version file a v) e; brings_first = b; brings_second = return_brought b })))
