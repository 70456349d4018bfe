-- Request 2's claim holds of every list of bytes.
-- Assumes nothing.
use mathlib.Core.Path.{◌≡◌, refl}
use mathlib.Core.Bool.{Bool, true, false, ◌||◌, cond}
use mathlib.Core.List.{List}
use mathlib.Core.Logic.Iff
use Prim.Native.Nat.{ℕ, ◌≤◌}
use native.Mathlib.Omega.{arith}
use lib.Dec.{T}
use Rattle.refusal.specs.declared.Refusal.TheVariants.{UnknownAction, VersionTooLarge, ActionAtEntryOrExit, MixedActions}
use Rattle.refusal.specs.Faults.{first_fault}
use Rattle.refusal.proofs.Checks.{scan_alike}
use Rattle.refusal.proofs.Faults.{fault_passed, fault_failed}
use Rattle.routine.specs.Actions.{is_unknown, is_too_large, is_at_entry_or_exit, is_mixed_in_row, row_check, actions_check}
use Rattle.routine.specs.Faults.{is_faulty, reason_at, Fault, NamesLowest, FourFaults}
use Rattle.routine.specs.Faults.Fault.{unknown, too_large, at_entry_or_exit, mixed}
use Rattle.routine.specs.Layout.{arrays, vertices, action_at}
use Rattle.routine.proofs.Rows.{in_order}

-- ---- the numbers of a byte's faults

module _ {file : List ℕ} {a v : ℕ} where
  -- none is below 15
  least : {n : ℕ} → Fault file a v n → 15 ≤ n
  least (unknown h) = omega arith
  least (too_large h) = omega arith
  least (at_entry_or_exit h) = omega arith
  least (mixed h) = omega arith

  -- and where the faults of lower numbers are not there
  module _ (known : is_unknown file a v ≡ false) where
    above_15 : {n : ℕ} → Fault file a v n → 17 ≤ n
    above_15 (unknown h) = absurd (rw known at h)
    above_15 (too_large h) = omega arith
    above_15 (at_entry_or_exit h) = omega arith
    above_15 (mixed h) = omega arith

    module _ (below : is_too_large file a v ≡ false) where
      above_17 : {n : ℕ} → Fault file a v n → 18 ≤ n
      above_17 (unknown h) = absurd (rw known at h)
      above_17 (too_large h) = absurd (rw below at h)
      above_17 (at_entry_or_exit h) = omega arith
      above_17 (mixed h) = omega arith

      above_18 : is_at_entry_or_exit file a v ≡ false → {n : ℕ} → Fault file a v n → 19 ≤ n
      above_18 inner (unknown h) = absurd (rw known at h)
      above_18 inner (too_large h) = absurd (rw below at h)
      above_18 inner (at_entry_or_exit h) = absurd (rw inner at h)
      above_18 inner (mixed h) = omega arith

-- the reason given has the lowest
lowest_named : (file : List ℕ) (a v : ℕ) → T (is_faulty file a v) → NamesLowest file a v (reason_at file a v)
lowest_named file a v = go (is_unknown file a v) (is_too_large file a v) (is_at_entry_or_exit file a v) (is_mixed_in_row file a v) refl refl refl refl
  where
    byte : ℕ
    byte = action_at file a v

    go : (p q r s : Bool) → is_unknown file a v ≡ p → is_too_large file a v ≡ q → is_at_entry_or_exit file a v ≡ r → is_mixed_in_row file a v ≡ s →
        T (p || (q || (r || s))) →
        NamesLowest file a v (cond p (UnknownAction byte) (cond q (VersionTooLarge byte) (cond r (ActionAtEntryOrExit byte) (MixedActions byte))))
    go true q r s d e f g h = record { number = 15; named = refl; meets = unknown (rw d tt); lowest = λ n. least }
    go false true r s d e f g h = record { number = 17; named = refl; meets = too_large (rw e tt); lowest = λ n. above_15 d }
    go false false true s d e f g h = record { number = 18; named = refl; meets = at_entry_or_exit (rw f tt); lowest = λ n. above_17 d e }
    go false false false true d e f g h = record { number = 19; named = refl; meets = mixed (rw g tt); lowest = λ n. above_18 d e f }
    go false false false false d e f g h = absurd h

-- ---- the claim

module _ (file : List ℕ) where
  -- four checks byte by byte are a scan for the first byte at fault
  one_scan : actions_check file ≡ first_fault (λ v a. is_faulty file a v) (λ v a. reason_at file a v) (vertices file) (arrays file)
  unfolding actions_check row_check first_fault
  one_scan = scan_alike (λ v. scan_alike (λ a. in_order file a v) 0 (arrays file)) 0 (vertices file)

  pub four_faults : FourFaults file
  four_faults = record {
    passed = rw one_scan (fault_passed (λ v a. is_faulty file a v) (λ v a. reason_at file a v) (vertices file) (arrays file) (λ v a. T (is_faulty file a v)) (λ v a h. Iff.rfl));
    failed = λ r. rw one_scan (fault_failed (λ v a. is_faulty file a v) (λ v a. reason_at file a v) (vertices file) (arrays file) (λ v a. T (is_faulty file a v)) (λ v a h. Iff.rfl) r);
    lowest = lowest_named file;
  }
