-- A check of each item, or of each vertex with each array, passes exactly if none has a fault, and else names the first that has.
-- Assumes nothing.
use Rattle.std.specs.Prelude.{Ok, Err}
use mathlib.Core.Path.{◌≡◌, refl, sym, ap}
use mathlib.Core.Bool.{Bool, true, false, not}
use mathlib.Core.Logic.{◌↔◌}
use Prim.Native.Nat.{ℕ, ◌<◌}
use native.Mathlib.Nat.{lt_trans}
use native.Mathlib.Omega.{arith}
use lib.Dec.{T}
use Rattle.refusal.specs.declared.Refusal.{Refusal}
use Rattle.refusal.specs.Checks.{Verdict, holds, first_failed}
use Rattle.refusal.specs.Faults.{FirstOf, first_fault, FirstFault}
use Rattle.refusal.proofs.Checks.{each_passed, all_passed, scan_failed_iff}

-- ---- one item

module _ {F : Type 0} where
  item_passed : (b : Bool) (r : Refusal) → T b ↔ F → (holds (not b) r ≡ Ok tt) ↔ (F → ⊥)
  item_passed true r f = (λ e x. let z : ◌≡◌ {A = ℕ} 0 1 = cc in omega arith, λ n. absurd (n (f.0 tt)))
  item_passed false r f = (λ e. f.1, λ n. refl)

  item_failed : (b : Bool) (r s : Refusal) → T b ↔ F → (holds (not b) r ≡ Err s) ↔ (F × (s ≡ r))
  item_failed true r s f = (λ e. (f.0 tt, cc), λ p. ap Err (sym p.1))
  item_failed false r s f = (λ e. absurd (let z : ◌≡◌ {A = ℕ} 0 1 = cc in omega arith), λ p. absurd (f.1 p.0))

-- ---- a row of n items

module _ (fault : ℕ → Bool) (refusal : ℕ → Refusal) (n : ℕ) (Fault : ℕ → Type 0) (exact : (i : ℕ) → i < n → T (fault i) ↔ Fault i) where
  abbrev item : ℕ → Verdict
  item i = holds (not (fault i)) (refusal i)

  -- passed: none has a fault
  pub row_passed : (first_failed item 0 n ≡ Ok tt) ↔ ((i : ℕ) → i < n → Fault i → ⊥)
  row_passed = (
    λ e i h. (item_passed (fault i) _ (exact i h)).0 (each_passed item n e i h),
    λ none. all_passed item n (λ i h. (item_passed (fault i) _ (exact i h)).1 (none i h)),
  )

  -- failed: the first that has
  pub row_failed : (r : Refusal) → (first_failed item 0 n ≡ Err r) ↔ ((i : ℕ) × FirstOf Fault n i × (r ≡ refusal i))
  row_failed r = (
    λ e. let (i, within, there, before) = (scan_failed_iff item n r).0 e in
        let f = (item_failed (fault i) _ r (exact i within)).0 there in
        (i, record { within = within; fault = f.0; none_earlier = λ j h. (item_passed (fault j) _ (exact j (lt_trans h within))).0 (before j h) }, f.1),
    λ p. let (i, f, is) = p in
        (scan_failed_iff item n r).1 (
          i,
          f.within,
          (item_failed (fault i) _ r (exact i f.within)).1 (f.fault, is),
          λ j h. (item_passed (fault j) _ (exact j (lt_trans h f.within))).1 (f.none_earlier j h),
        ),
  )

-- ---- all vertices and arrays

module _ (fault : ℕ → ℕ → Bool) (refusal : ℕ → ℕ → Refusal) (vertices arrays : ℕ) (Fault : ℕ → ℕ → Type 0)
    (exact : (v a : ℕ) → a < arrays → T (fault v a) ↔ Fault v a) where
  abbrev row : ℕ → Verdict
  row v = first_failed (λ a. holds (not (fault v a)) (refusal v a)) 0 arrays

  passed_at : (v : ℕ) → (row v ≡ Ok tt) ↔ ((a : ℕ) → a < arrays → Fault v a → ⊥)
  passed_at v = row_passed (fault v) (refusal v) arrays (Fault v) (exact v)

  -- passed: no vertex has a fault with an array
  pub fault_passed : (first_fault fault refusal vertices arrays ≡ Ok tt) ↔ ((v a : ℕ) → v < vertices → a < arrays → Fault v a → ⊥)
  unfolding first_fault
  fault_passed = (
    λ e v a h. (passed_at v).0 (each_passed row vertices e v h) a,
    λ n. all_passed row vertices (λ v h. (passed_at v).1 (λ a. n v a h)),
  )

  -- failed: the first that has, by vertex, then by array
  pub fault_failed : (r : Refusal) → (first_fault fault refusal vertices arrays ≡ Err r) ↔ ((v : ℕ) × (a : ℕ) × FirstFault Fault vertices arrays v a × (r ≡ refusal v a))
  unfolding first_fault
  fault_failed r = (
    λ e. let (v, in_v, there, before) = (scan_failed_iff row vertices r).0 e in
        let (a, f, is) = (row_failed (fault v) (refusal v) arrays (Fault v) (exact v) r).0 there in (
          v,
          a,
          record { vertex = in_v; array = f.within; fault = f.fault; none_earlier = λ u b h. (passed_at u).0 (before u h) b; none_there = f.none_earlier },
          is,
        ),
    λ p. let (v, a, f, is) = p in
        (scan_failed_iff row vertices r).1 (
          v,
          f.vertex,
          (row_failed (fault v) (refusal v) arrays (Fault v) (exact v) r).1 (a, record { within = f.array; fault = f.fault; none_earlier = f.none_there }, is),
          λ u h. (passed_at u).1 (λ b. f.none_earlier u b h),
        ),
  )
