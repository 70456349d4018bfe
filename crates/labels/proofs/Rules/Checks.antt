-- Refusals 20 and 21: a check passes exactly if no vertex has a fault with an array, and else names the first that has, by vertex, then by array.
-- Assumes nothing.
use Rattle.std.specs.Prelude.{Ok, Err}
use mathlib.Core.Path.{◌≡◌}
use mathlib.Core.List.{List}
use mathlib.Core.Logic.Iff
use mathlib.Core.Logic.{◌↔◌}
use Prim.Native.Nat.{ℕ, ◌<◌}
use lib.Dec.{T}
use Rattle.routine.specs.Layout.{arrays, vertices}
use Rattle.refusal.specs.declared.Refusal.{Refusal}
use Rattle.refusal.specs.declared.Refusal.TheVariants.{WritesInArgument, AmbiguousReference}
use Rattle.refusal.specs.Faults.{FirstFault}
use Rattle.refusal.proofs.Faults.{fault_passed, fault_failed}
use Rattle.labels.specs.Ambiguity.{Ambiguous, is_ambiguous}
use Rattle.labels.specs.Checks.{writes_in, check20, check21}
use Rattle.labels.proofs.Rules.Proper.{Proper}
use Rattle.labels.proofs.Rules.Ambiguity.{ambiguous_exact}

-- ---- 20: define or modify of an in argument

module _ (file : List ℕ) where
  -- no 20: no vertex defines or modifies an in argument
  pub check20_passed : (check20 file ≡ Ok tt) ↔ ((v a : ℕ) → v < vertices file → a < arrays file → T (writes_in file a v) → ⊥)
  unfolding check20
  check20_passed = fault_passed (λ v a. writes_in file a v) WritesInArgument (vertices file) (arrays file) (λ v a. T (writes_in file a v)) (λ v a h. Iff.rfl)

  -- 20: the places are the first that does, by vertex, then by array
  pub check20_failed : (r : Refusal) → (check20 file ≡ Err r) ↔ ((v : ℕ) × (a : ℕ) × FirstFault (λ v a. T (writes_in file a v)) (vertices file) (arrays file) v a × (r ≡ WritesInArgument v a))
  unfolding check20
  check20_failed = fault_failed (λ v a. writes_in file a v) WritesInArgument (vertices file) (arrays file) (λ v a. T (writes_in file a v)) (λ v a h. Iff.rfl)

-- ---- 21: ambiguous reference

module _ (file : List ℕ) (proper : (a : ℕ) → a < arrays file → Proper file a) where
  -- no 21: no reference is ambiguous
  pub check21_passed : (check21 file ≡ Ok tt) ↔ ((v a : ℕ) → v < vertices file → a < arrays file → Ambiguous file a v → ⊥)
  unfolding check21
  check21_passed = fault_passed (λ v a. is_ambiguous file a v) AmbiguousReference (vertices file) (arrays file) (λ v a. Ambiguous file a v) (λ v a h. ambiguous_exact file a (proper a h) v)

  -- 21: the places are the first that is, by vertex, then by array
  pub check21_failed : (r : Refusal) → (check21 file ≡ Err r) ↔ ((v : ℕ) × (a : ℕ) × FirstFault (λ v a. Ambiguous file a v) (vertices file) (arrays file) v a × (r ≡ AmbiguousReference v a))
  unfolding check21
  check21_failed = fault_failed (λ v a. is_ambiguous file a v) AmbiguousReference (vertices file) (arrays file) (λ v a. Ambiguous file a v) (λ v a h. ambiguous_exact file a (proper a h) v)
