-- The computed plan of each array of a well-formed file is sound.
-- Assumes nothing.
use mathlib.Core.Path.{◌≡◌, refl, sym, ap, ◌∙◌}
use mathlib.Core.Bool.{true, false, or-true, and-false}
use mathlib.Core.List.{List}
use Prim.Native.Nat.{ℕ, ◌<◌}
use native.Mathlib.Omega.{arith}
use borrow.Author.Tests.{eq-eqb, ne_eqb, eqb-true}
use Rattle.labels.specs.Events.{edge_bytes, event, version_of, version}
use Rattle.routine.specs.Layout.{arrays, entry, exit}
use Rattle.routine.specs.Reader.{WellFormed}
use Rattle.labels.specs.Kept.{is_n_or_r, kept_of}
use Rattle.labels.proofs.Rules.Proper.{Proper}
use Rattle.labels.specs.Uses.{is_n, use_of}
use Rattle.labels.specs.declared.Use.{Use}
use Rattle.labels.specs.declared.Use.TheVariants.{N, D, R, W}
use Rattle.labels.proofs.Rules.Events.{version_fits, entry_remaps}
use Rattle.labels.proofs.Rules.Kept.{kept_alone}
use Rattle.labels.proofs.Rules.Uses.{exit_letter, n_segment, d_segment, r_segment}
use Rattle.routine.specs.Arrays.{array_of, kind, initial, is_in, is_out_or_inout}
use Rattle.routine.specs.declared.action.Action.TheVariants.{Nothing, Remap}
use Rattle.sets.specs.Sets.{has}
use Rattle.sets.proofs.Laws.{single_is}
use Rattle.demand.proofs.Invariant.{ArrayPlan, Sound}

-- the plan of array a
abbrev pub computed_plan : List ℕ → ℕ → ArrayPlan
computed_plan file a =
    record { edges = edge_bytes file; event = event file a; letter = use_of file a; keep = kept_of file a; array = array_of file a; exit = exit file }

not_N_or_R : (u : Use) → is_n u ≡ false → (u ≡ R → ⊥) → is_n_or_r u ≡ false
not_N_or_R N h g = cc
not_N_or_R D h g = refl
not_N_or_R R h g = absurd (g refl)
not_N_or_R W h g = refl

module _ {file : List ℕ} {a : ℕ} (proper : Proper file a) where
  -- a label's version
  version_is : (v k : ℕ) → event file a v ≡ Remap k → version file a v ≡ k
  unfolding version
  version_is v k e = ap version_of e

  exit_remaps : is_out_or_inout (kind file a) ≡ true → event file a (exit file) ≡ Remap (initial file a)
  unfolding event
  exit_remaps k = rw (eq-eqb (exit file) (exit file) refl, k, or-true)

  -- the exit does nothing with an in argument
  pub exit_quiet : WellFormed file → a < arrays file → is_in (kind file a) ≡ true → event file a (exit file) ≡ Nothing
  unfolding event
  exit_quiet w l e =
      rw (ne_eqb (exit file) entry (λ q. omega (arith, w.laid.limits.two_vertices)), ap (λ (k : ℕ). is_out_or_inout k) (eqb-true (kind file a) 1 e), and-false) (w.exit_nothing l)

  pub sound : Sound (computed_plan file a)
  sound =
      record {
        unused = λ {v} e. n_segment file a proper v;
        defined = λ {v} e. d_segment file a proper v;
        only_read = λ {v} e. r_segment file a proper v;
        alone = λ {v} {k} e n c j h.
            let m = kept_alone file a v refl (rw (not_N_or_R (use_of file a v) n c) tt) (rw e tt) in
            sym (single_is (version file a v) j (ap (λ (m : ℕ). has m j) (sym m) ∙ h)) ∙ version_is v k e;
        below = λ {v} {k} e. omega (arith, version_fits file a proper v, version_is v k e);
        entry_remaps = entry_remaps file a;
        exit_remaps = exit_remaps;
        exit_letter = λ k. exit_letter file a proper (exit file) refl;
        exit_ends = λ {w}. proper.none_leaves w;
      }
