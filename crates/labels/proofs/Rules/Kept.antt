-- Kept sets: the computed sets hold what the rule by paths says.
-- Assumes nothing.
use mathlib.Core.Path.{◌≡◌, refl}
use mathlib.Core.Bool.{Bool, true, false, not, ◌&&◌, cond}
use mathlib.Core.List.{List}
use mathlib.Core.Logic.Iff
use mathlib.Core.Logic.{◌↔◌}
use Prim.Native.Nat.{ℕ, ◌^◌, ◌<◌}
use lib.Bits.{bit_or, or_lt, or_zero_r}
use lib.Dec.{T}
use lib.ListN.{get_or}
use lib.Pow.{pow_pos}
use Rattle.flow.proofs.Members.{member_or, member_cond, member_single}
use Rattle.sets.specs.Sets.{has, width}
use Rattle.words.proofs.Tests.{at_cond}
use Rattle.labels.specs.declared.Use.{Use}
use Rattle.labels.specs.declared.Use.TheVariants.{N, D, R, W}
use Rattle.labels.specs.Events.{version, is_label}
use Rattle.labels.specs.Kept.{is_n_or_r, passes_kept, KeepsFor, InKept, leaving_set, kept_sets, kept_of}
use Rattle.labels.proofs.Rules.Proper.{Proper}
use Rattle.labels.specs.Uses.{use_of, is_n, is_kept, Leaves}
use Rattle.labels.proofs.Rules.Versions.{single_fits, versions_exact, versions_fit}

module _ (file : List ℕ) (a : ℕ) (proper : Proper file a) (v : ℕ) where
  -- the leaving version if there is one
  leaving_exact : (k : ℕ) → T (has (leaving_set file a v) k) ↔ Leaves file a v k
  unfolding leaving_set
  leaving_exact k = member_cond (is_kept file a v) (2 ^ version file a v) k Iff.rfl (member_single (version file a v) k)

  -- what an N or R label keeps for later ones
  keeps_exact : (k : ℕ) → T (has (cond (is_n_or_r (use_of file a v)) (get_or (kept_sets file a) v 0) 0) k) ↔ KeepsFor file a v k
  unfolding kept_sets leaving_set
  keeps_exact k =
      member_cond (is_n_or_r (use_of file a v)) (get_or (kept_sets file a) v 0) k Iff.rfl
      (versions_exact file a proper true _ _ (is_kept file a) (passes_kept file a) (λ u. refl) (λ u. refl) _ (λ u. Iff.rfl) v k)

  -- kept set: the leaving version; also that of each label that some path arrives at while every label from here up to it is N or R
  pub kept_exact : (k : ℕ) → T (has (kept_of file a v) k) ↔ InKept file a v k
  unfolding kept_of
  kept_exact k = member_or (leaving_set file a v) _ k (leaving_exact k) (keeps_exact k)

  -- a kept set has no version beyond the width
  pub kept_fits : kept_of file a v < 2 ^ width
  unfolding kept_of leaving_set kept_sets
  kept_fits =
      or_lt width _ _ (single_fits file a proper (is_kept file a v) v)
      (at_cond (λ m. m < 2 ^ width) (is_n_or_r (use_of file a v)) (λ _. versions_fit file a proper true _ _ (is_kept file a) (passes_kept file a) (λ u. refl) v) (λ _. pow_pos width))

-- the kept set of a D or W label is its own version alone
pub kept_alone : (file : List ℕ) (a v : ℕ) {u : Use} → use_of file a v ≡ u → T (not (is_n_or_r u)) → T (is_label file a v) → kept_of file a v ≡ 2 ^ version file a v
unfolding kept_of leaving_set is_kept
kept_alone file a v e h l = go (is_label file a v) (use_of file a v) l (rw (← e) at h)
  where
    go : (b : Bool) (u : Use) → T b → T (not (is_n_or_r u))
        → bit_or (cond (b && not (is_n u)) (2 ^ version file a v) 0) (cond (is_n_or_r u) (get_or (kept_sets file a) v 0) 0) ≡ 2 ^ version file a v
    go true D l h = or_zero_r (2 ^ version file a v)
    go true W l h = or_zero_r (2 ^ version file a v)
    go true N l h = absurd h
    go true R l h = absurd h
    go false u l h = absurd l
