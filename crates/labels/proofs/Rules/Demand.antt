-- Demand 2 holds of every routine that was read.
-- Assumes nothing.
use mathlib.Core.Path.{◌≡◌, refl, sym, ap}
use mathlib.Core.Bool.{Bool, true, false, not, ◌&&◌, cond, false≢true}
use mathlib.Core.List.{List}
use mathlib.Core.Logic.Iff
use mathlib.Core.Logic.{◌↔◌}
use Prim.Native.Nat.{ℕ, ◌<◌}
use native.Mathlib.Omega.{arith}
use lib.Dec.{T}
use Rattle.routine.specs.Reader.{WellFormed}
use Rattle.labels.specs.declared.Use.{Use}
use Rattle.labels.specs.declared.Use.TheVariants.{N, D, R, W}
use Rattle.labels.specs.Demand.{Demand2}
use Rattle.labels.specs.Events.{is_label, version}
use Rattle.labels.specs.Uses.{IsUse, use_of, is_n, is_kept, Leaves, leaving_byte}
use Rattle.labels.proofs.Rules.Checks.{check21_passed, check21_failed}
use Rattle.labels.proofs.Rules.Events.{version_fits}
use Rattle.labels.proofs.Rules.Kept.{kept_exact}
use Rattle.labels.proofs.Rules.Proper.{Proper, proper}
use Rattle.labels.proofs.Rules.Reaching.{reaching_exact}
use Rattle.labels.proofs.Rules.Uses.{use_exact, dropped_exact}
use Rattle.sets.specs.Sets.{width}

-- a label that is not kept is N
dropped_n : (file : List ℕ) (a v : ℕ) → T (is_label file a v) → (T (is_kept file a v) → ⊥) ↔ (use_of file a v ≡ N)
unfolding is_kept
dropped_n file a v l = go (is_label file a v) (use_of file a v) l
  where
    go : (b : Bool) (u : Use) → T b → (T (b && not (is_n u)) → ⊥) ↔ (u ≡ N)
    go true N l = (λ n. refl, λ e h. h)
    go true D l = (λ n. absurd (n tt), λ e. absurd (false≢true (ap is_n e)))
    go true R l = (λ n. absurd (n tt), λ e. absurd (false≢true (ap is_n e)))
    go true W l = (λ n. absurd (n tt), λ e. absurd (false≢true (ap is_n e)))
    go false u l = absurd l

-- the leaving byte of a label is the version that it leaves with
leaving_version : (file : List ℕ) (a v : ℕ) → T (is_label file a v) → (k : ℕ) → k < width → (leaving_byte file a v ≡ k) ↔ Leaves file a v k
unfolding leaving_byte is_kept
leaving_version file a v l k h = go (is_label file a v) (use_of file a v) (version file a v) l
  where
    go : (b : Bool) (u : Use) (n : ℕ) → T b → (cond (is_n u) 255 n ≡ k) ↔ (T (b && not (is_n u)) × (n ≡ k))
    go true N n l = (λ e. absurd (omega arith), λ p. absurd p.0)
    go true D n l = (λ e. (tt, e), λ p. p.1)
    go true R n l = (λ e. (tt, e), λ p. p.1)
    go true W n l = (λ e. (tt, e), λ p. p.1)
    go false u n l = absurd l

-- 255 stands for none: a version is below the width
leaving_absent : (file : List ℕ) (a : ℕ) → Proper file a → (v : ℕ) → (leaving_byte file a v ≡ 255) ↔ IsUse file a v N
unfolding leaving_byte
leaving_absent file a proper v =
    let rule = use_exact file a proper v N in (
      λ e. rule.1 (go (use_of file a v) (version file a v) (version_fits file a proper v) e),
      λ is. ap (λ (u : Use). cond (is_n u) 255 (version file a v)) (sym (rule.0 is)),
    )
  where
    go : (u : Use) (n : ℕ) → n < width → cond (is_n u) 255 n ≡ 255 → N ≡ u
    go N n h e = refl
    go D n h e = absurd (omega arith)
    go R n h e = absurd (omega arith)
    go W n h e = absurd (omega arith)

pub demand2 : (routine judged : List ℕ) → WellFormed routine → WellFormed judged → Demand2 routine judged
demand2 routine judged well formed = record {
  letters = λ a v h. use_exact routine a (proper routine well a h) v;
  leaving = λ a v h. leaving_version routine a v;
  leaving_none = λ a v h. leaving_absent routine a (proper routine well a h) v;
  reaching = λ a v h. reaching_exact routine a (proper routine well a h) v;
  kept = λ a v h. kept_exact routine a (proper routine well a h) v;
  dropped = λ a v h l e. Iff.trans (dropped_n routine a v l) (dropped_exact routine a (proper routine well a h) v e);
  unambiguous = check21_passed judged (proper judged formed);
  ambiguous = check21_failed judged (proper judged formed);
}
