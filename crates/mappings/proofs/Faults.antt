-- 41 and 42 are passed exactly if the rule by paths has no fault, and else name its first place.
-- Assumes nothing.
use Rattle.std.specs.Prelude.{Ok}
use mathlib.Core.Path.{◌≡◌}
use mathlib.Core.Bool.{Bool, not}
use mathlib.Core.List.{List}
use mathlib.Core.Logic.Iff
use mathlib.Core.Logic.{◌↔◌}
use Prim.Native.Nat.{ℕ, ◌≤◌, ◌<◌}
use borrow.Author.Tests.{lt-ltb, ltb-false, not-true}
use lib.Dec.{T, ltb, ltb→lt}
use lib.ListN.{length}
use Rattle.refusal.proofs.Checks.{holds_true, each_passed}
use Rattle.refusal.proofs.Faults.{row_passed, row_failed, fault_passed, fault_failed}
use Rattle.refusal.specs.Checks.{holds}
use Rattle.refusal.specs.declared.Refusal.TheVariants.{TooManyMappings, TwoMappings}
use Rattle.sets.specs.Sets.{width, several}
use Rattle.directives.specs.Fields.{check40}
use Rattle.directives.specs.Layout.{arrays, vertices}
use Rattle.mappings.specs.Computed.{versions_of, left_set, check41, check42}
use Rattle.mappings.specs.Demand.{MappingFaults}
use Rattle.mappings.specs.Rules.{TooMany, InTwo}
use Rattle.mappings.specs.Theorem.{Formed}
use Rattle.mappings.proofs.Formed.{formed}
use Rattle.mappings.proofs.Left.{two_exact}
use Rattle.mappings.proofs.Numbers.{many_exact}

-- more versions than the limit
abbrev too_many : List ℕ → ℕ → Bool
too_many file a = ltb width (length (versions_of file a))

-- 41 leaves no array with more
pub few_versions : (file : List ℕ) → check41 file ≡ Ok tt → (a : ℕ) → a < arrays file → length (versions_of file a) ≤ width
unfolding check41
few_versions file e a h =
    ltb-false width _ (not-true _ (holds_true _ _ (each_passed (λ a. holds (not (too_many file a)) (TooManyMappings a)) (arrays file) e a h)))

pub mapping_faults : (file : List ℕ) → check40 file ≡ Ok tt → MappingFaults file
unfolding check41 check42
mapping_faults file passed = record {
  few = row_passed (too_many file) TooManyMappings (arrays file) (TooMany file width) many;
  many = row_failed (too_many file) TooManyMappings (arrays file) (TooMany file width) many;
  single = λ e. fault_passed (λ v a. several (left_set file a v)) TwoMappings (vertices file) (arrays file) (λ v a. InTwo file a v) (two e);
  double = λ e. fault_failed (λ v a. several (left_set file a v)) TwoMappings (vertices file) (arrays file) (λ v a. InTwo file a v) (two e);
}
  where
    f : Formed file
    f = formed file passed

    many : (a : ℕ) → a < arrays file → T (too_many file a) ↔ TooMany file width a
    many a h = Iff.trans (ltb→lt width (length (versions_of file a)), λ l. rw (lt-ltb width (length (versions_of file a)) l) tt) (many_exact f a h width)

    two : check41 file ≡ Ok tt → (v a : ℕ) → a < arrays file → T (several (left_set file a v)) ↔ InTwo file a v
    two e v a h = two_exact f a h (few_versions file e a h) v
