-- Demand 2, one claim about a whole routine: its labels are exactly those of the rules; a remapping before the exit is dropped exactly if
-- no path from it uses its array before the next one; a reference is refused as ambiguous exactly if two paths bring different versions.
-- Assumes nothing.
use Rattle.std.specs.Prelude.{◌≡◌, List, ◌↔◌, ℕ, ◌<◌, T, Ok, Err}
use Rattle.refusal.specs.Faults.{FirstFault}
use Rattle.refusal.specs.declared.Refusal.{Refusal}
use Rattle.refusal.specs.declared.Refusal.TheVariants.{AmbiguousReference}
use Rattle.routine.specs.Layout.{arrays, vertices, exit}
use Rattle.sets.specs.Sets.{has, width}
use Rattle.labels.specs.declared.Use.{Use}
use Rattle.labels.specs.declared.Use.TheVariants.{N}
use Rattle.labels.specs.Ambiguity.{Ambiguous}
use Rattle.labels.specs.Checks.{check21}
use Rattle.labels.specs.Events.{is_label}
use Rattle.labels.specs.Kept.{InKept, kept_of}
use Rattle.labels.specs.Reaching.{Reaches, reaching_of}
use Rattle.labels.specs.Uses.{IsUse, use_of, Unused, is_kept, Leaves, leaving_byte}

-- demand 2, of the routine that is planned, and of the routine of which 21 is asked: the file with calls read as references, whose places are
-- the file's
pub record Demand2 (routine judged : List ℕ) : Type 0 where
  -- the letter of a label is the one whose rule holds, and no other's rule does
  pub letters : (a v : ℕ) → a < arrays routine → (u : Use) → IsUse routine a v u ↔ (u ≡ use_of routine a v)
  -- its leaving version in the plan is k exactly where it leaves with k
  pub leaving : (a v : ℕ) → a < arrays routine → T (is_label routine a v) → (k : ℕ) → k < width → (leaving_byte routine a v ≡ k) ↔ Leaves routine a v k
  -- and 255, none, exactly where its letter is N
  pub leaving_none : (a v : ℕ) → a < arrays routine → (leaving_byte routine a v ≡ 255) ↔ IsUse routine a v N
  -- its reaching set has the versions that reach it, and no others
  pub reaching : (a v : ℕ) → a < arrays routine → (k : ℕ) → T (has (reaching_of routine a v) k) ↔ Reaches routine a v k
  -- its kept set has the versions that it keeps, and no others
  pub kept : (a v : ℕ) → a < arrays routine → (k : ℕ) → T (has (kept_of routine a v) k) ↔ InKept routine a v k
  -- a label before the exit is dropped exactly if no segment from it meets a reference
  pub dropped : (a v : ℕ) → a < arrays routine → T (is_label routine a v) → (v ≡ exit routine → ⊥) → (T (is_kept routine a v) → ⊥) ↔ Unused routine a v
  -- 21 is passed exactly if no reference is ambiguous
  pub unambiguous : (check21 judged ≡ Ok tt) ↔ ((v a : ℕ) → v < vertices judged → a < arrays judged → Ambiguous judged a v → ⊥)
  -- else its places are those of the first that is, by vertex, then by array
  pub ambiguous :
      (r : Refusal) → (check21 judged ≡ Err r)
      ↔ ((v : ℕ) × (a : ℕ) × FirstFault (λ v a. Ambiguous judged a v) (vertices judged) (arrays judged) v a × (r ≡ AmbiguousReference v a))
