-- Ambiguous references: the last label before a reference is kept, so the reaching set there holds what paths from the entry bring, and a
-- reference with more than one is ambiguous.
-- Assumes nothing.
use mathlib.Core.Path.{◌≡◌, refl, sym, ap, subst, ◌∙◌}
use mathlib.Core.Bool.{Bool, true, false, not, ◌&&◌, cond}
use mathlib.Core.List.{List, [], ◌∷◌}
use mathlib.Core.Logic.Iff
use mathlib.Core.Logic.{◌↔◌}
use mathlib.Core.Option.{Option, none, some}
use Prim.Native.Nat.{ℕ}
use lib.Dec.{T}
use lib.Ieee.Bits.{is_true}
use Rattle.flow.specs.Paths.{last, next, Joined}
use Rattle.words.proofs.Tests.{and_iff}
use Rattle.routine.specs.Actions.{is_reference}
use Rattle.routine.specs.Layout.{entry}
use Rattle.sets.specs.Sets.{has, several, width}
use Rattle.sets.proofs.Laws.{several_two, two_several}
use Rattle.labels.specs.declared.Use.{Use}
use Rattle.labels.specs.declared.Use.TheVariants.{N, D, R, W}
use Rattle.labels.specs.Ambiguity.{Brings, Ambiguous, is_ambiguous}
use Rattle.labels.specs.Events.{edge_bytes, event, is_label, version}
use Rattle.labels.specs.Reaching.{ArrivesBy, or_last, last_version, or_initial, is_reached, reaching_of}
use Rattle.labels.specs.Uses.{Segment, use_of, is_n, is_kept}
use Rattle.labels.proofs.Rules.Proper.{Proper}
use Rattle.labels.proofs.Rules.Events.{entry_remaps}
use Rattle.labels.proofs.Rules.Arrivals.{reached_exact, reached_next, Last, last_of}
use Rattle.labels.proofs.Rules.Reaching.{reaching_exact, reaching_fits}
use Rattle.labels.proofs.Rules.Uses.{n_segment}

module _ (file : List ℕ) (a : ℕ) (proper : Proper file a) (v : ℕ) where
  -- the version of u, if a test says so
  abbrev own : Bool → ℕ → Option ℕ
  own b u = cond b (some (version file a u)) none

  -- ---- before a reference

  module _ (reference : T (is_reference (event file a v))) where
    -- a label from which a segment meets it is kept
    label_kept : (u : ℕ) → Segment (edge_bytes file) (event file a) u v → is_label file a u ≡ is_kept file a u
    unfolding is_kept
    label_kept u t = go (is_label file a u) (use_of file a u) refl
      where
        go : (b : Bool) (x : Use) → use_of file a u ≡ x → b ≡ (b && not (is_n x))
        go true N e = absurd (n_segment file a proper u e t reference)
        go true D e = refl
        go true R e = refl
        go true W e = refl
        go false x e = refl

    -- so the last label is the last kept one
    last_kept : (u : ℕ) (us : List ℕ) → T (is_reached file u) → Joined (edge_bytes file) u us v
        → last_version (is_label file a) (version file a) (u ∷ us) ≡ last_version (is_kept file a) (version file a) (u ∷ us)
    last_kept u [] h e = ap (λ (b : Bool). own b u) (label_kept u (last e))
    last_kept u (x ∷ us) h e =
        let start = reached_next proper.ends u x h e.0 in
        step (last_version (is_label file a) (version file a) (x ∷ us)) (last_of (is_label file a) (version file a) proper.ends x us v start e.1)
        ∙ ap (or_last (own (is_kept file a u) u)) (last_kept x us start e.1)
      where
        step : (o : Option ℕ) → Last (is_label file a) (version file a) proper.ends x v o → or_last (own (is_label file a u) u) o ≡ or_last (own (is_kept file a u) u) o
        step none l = ap (λ (b : Bool). own b u) (label_kept u (next e.0 l.0 l.1))
        step (some k) l = refl

    -- and there is one, since entry labels every array
    entry_label : (u : ℕ) → u ≡ entry → (o : Option ℕ) → or_initial file a (or_last (own (is_label file a u) u) o) ≡ or_last (own (is_label file a u) u) o
    entry_label u e o = rw (ap (event file a) e ∙ entry_remaps file a) (go o)
      where
        go : (o : Option ℕ) → or_initial file a (or_last (own true u) o) ≡ or_last (own true u) o
        go none = refl
        go (some k) = refl

    last_brings : (before : List ℕ) → ArrivesBy file before v
        → or_initial file a (last_version (is_kept file a) (version file a) before) ≡ last_version (is_label file a) (version file a) before
    last_brings [] p = absurd (subst (λ x. T (is_reference x)) (ap (event file a) p ∙ entry_remaps file a) reference)
    last_brings (u ∷ us) p =
        ap (or_initial file a) (sym (last_kept u us ((reached_exact proper.ends u).1 ([], p.0)) p.1))
        ∙ entry_label u p.0 (last_version (is_label file a) (version file a) us)

    -- the reaching set holds what paths bring
    pub brings_exact : (k : ℕ) → T (has (reaching_of file a v) k) ↔ Brings file a v k
    brings_exact k = Iff.trans (reaching_exact file a proper v k) (
      λ r. record { before = r.before; path = r.path; brings = sym (last_brings r.before r.path) ∙ r.brings },
      λ b. record { before = b.before; path = b.path; brings = last_brings b.before b.path ∙ b.brings },
    )

  -- a reference is ambiguous exactly if two paths from the entry bring different versions to it
  pub ambiguous_exact : T (is_ambiguous file a v) ↔ Ambiguous file a v
  unfolding is_ambiguous
  ambiguous_exact =
      let m = reaching_of file a v in
      let both = and_iff (is_reference (event file a v)) (several m) Iff.rfl Iff.rfl in (
        λ h. let t = several_two width m (reaching_fits file a proper v) (is_true (several m) (both.0 h).1) in
            let brings = brings_exact (both.0 h).0 in
            record {
              reference = (both.0 h).0;
              first = t.first;
              second = t.second;
              differ = t.differ;
              brings_first = (brings t.first).0 (rw t.has_first tt);
              brings_second = (brings t.second).0 (rw t.has_second tt);
            },
        λ r. both.1 (
          r.reference,
          subst T (sym (two_several m (record {
            first = r.first;
            second = r.second;
            differ = r.differ;
            has_first = is_true _ ((brings_exact r.reference r.first).1 r.brings_first);
            has_second = is_true _ ((brings_exact r.reference r.second).1 r.brings_second);
          }))) tt,
        ),
      )
