-- 20 and 21 by what the tables hold: cell by cell, and by a test of a row.
-- Assumes nothing.
use Rattle.std.specs.Prelude.{Ok, Err}
use mathlib.Core.Path.{◌≡◌, refl, sym, ap, ap₂, ◌∙◌}
use mathlib.Core.Bool.{Bool, true, false, not, ◌&&◌, cond}
use mathlib.Core.List.{List}
use Prim.Native.Nat.{ℕ, ◌+◌, ◌*◌, ◌≤◌, ◌<◌}
use native.Mathlib.Omega.{arith}
use lib.Bits.{bit_and}
use lib.Dec.{T, eqb}
use lib.ListN.{get_or}
use Rattle.refusal.specs.Checks.{holds, first_failed, Verdict}
use Rattle.routine.specs.Actions.{is_reference}
use Rattle.routine.specs.Layout.{arrays, vertices}
use Rattle.routine.specs.Reader.{WellFormed}
use Rattle.routine.specs.declared.action.Action.{Action}
use Rattle.refusal.specs.declared.Refusal.{Refusal}
use Rattle.refusal.proofs.Checks.{all_passed}
use Rattle.sets.specs.Sets.{has, several}
use Rattle.labels.specs.Ambiguity.{brought_of, is_ambiguous}
use Rattle.labels.specs.Checks.{writes_in}
use Rattle.labels.specs.Events.{event, is_write}
use Rattle.routine.specs.Arrays.{kind, is_in}
use Rattle.labels.specs.Reaching.{reaching_of}
use Rattle.labels.specs.Uses.{use_gives}
use Rattle.words.specs.Sums.{any_below}
use Rattle.words.proofs.Sums.{each_fails}
use Rattle.passes.specs.Tables.{Cells, UseGives}
use Rattle.checks.specs.Rows.{InMasks, AtReferences}
use Rattle.labels.proofs.Rules.Brought.{brought_reaching}
use Rattle.labels.proofs.Rules.Events.{by_event}
use Rattle.labels.proofs.Rules.Proper.{proper}
use Rattle.labels.proofs.Rules.Uses.{use_reference}

-- ---- a fault as an item of a scan

module _ {b fault : Bool} (r : Refusal) (is : b ≡ fault) where
  pub faulty : b ≡ true → Err r ≡ holds (not fault) r
  faulty e = rw (← is, e)

  pub faultless : b ≡ false → (Ok tt) ≡ holds (not fault) r
  faultless e = rw (← is, e)

-- ---- an answer

-- one that failed did not pass
pub not_passed : {A : Type 0} {v : Verdict} {r : Refusal} → v ≡ Err r → v ≡ Ok tt → A
not_passed f e = absurd (let z : ◌≡◌ {A = ℕ} 0 1 = cc in omega arith)

-- ---- a row

-- where a test agrees with the fault in the cells of all arrays, and passes in no cell, the row has no fault
pub row_passes : {test fault : ℕ → Bool} (refusal : ℕ → Refusal) {m : ℕ} → m ≤ 8 → ((a : ℕ) → a < m → test a ≡ fault a) → any_below test 8 ≡ false
    → (Ok tt) ≡ first_failed (λ a. holds (not (fault a)) (refusal a)) 0 m
row_passes {test} {fault} refusal {m} few same none =
    sym (all_passed (λ a. holds (not (fault a)) (refusal a)) m (λ a h. sym (faultless (refusal a) (same a h) (each_fails test 8 none a (omega arith)))))

-- ---- a cell

-- a test behind another counts only where that one passes
and_where : (b : Bool) {x y : Bool} → (T b → x ≡ y) → (b && x) ≡ (b && y)
and_where true h = h tt
and_where false h = refl

-- a write of an array gives bit 3
write_masked : (x : Action) (b : Bool) → not (eqb (bit_and (use_gives x) (cond b 0b1000 0)) 0) ≡ (b && is_write x)
write_masked x true = by_event (λ x. not (eqb (bit_and (use_gives x) 0b1000) 0) ≡ is_write x) refl refl refl refl refl (λ k. refl) refl x
write_masked x false = by_event (λ x. not (eqb (bit_and (use_gives x) 0) 0) ≡ false) refl refl refl refl refl (λ k. refl) refl x

module _ {file uses : List ℕ} (us : UseGives file uses) (v : ℕ) (in_v : v < vertices file) (a : ℕ) (in_a : a < arrays file) where
  pub writes_cell : {masks : List ℕ} → InMasks file masks → not (eqb (bit_and (get_or uses (8 * v + a) 0) (get_or masks a 0)) 0) ≡ writes_in file a v
  unfolding writes_in
  writes_cell h =
      ap₂ (λ (x y : ℕ). not (eqb (bit_and x y) 0)) (us.cells a v in_a in_v) (h.are a in_a) ∙ write_masked (event file a v) (is_in (kind file a))

  pub ambiguous_cell : {reaching : List ℕ} → AtReferences file reaching
      → (has (get_or uses (8 * v + a) 0) 0 && several (get_or reaching (8 * v + a) 0)) ≡ is_ambiguous file a v
  unfolding is_ambiguous
  ambiguous_cell {reaching} h =
      ap (λ (x : ℕ). has x 0 && several (get_or reaching (8 * v + a) 0)) (us.cells a v in_a in_v)
      ∙ ap (λ (b : Bool). b && several (get_or reaching (8 * v + a) 0)) (use_reference (event file a v))
      ∙ and_where (is_reference (event file a v)) (λ r. ap several (h.are a v in_a in_v r))

-- ---- at references: what reaches them, which is what paths bring to them

pub reaching_there : {file s : List ℕ} → Cells file (reaching_of file) s → AtReferences file s
reaching_there h = record { size = h.size; are = λ a v in_a in_v _. h.cells a v in_a in_v }

pub brought_there : {file s : List ℕ} → WellFormed file → Cells file (brought_of file) s → AtReferences file s
brought_there {file} well h = record {
  size = h.size;
  are = λ a v in_a in_v r. h.cells a v in_a in_v ∙ brought_reaching file a (proper file well a in_a) v r;
}
