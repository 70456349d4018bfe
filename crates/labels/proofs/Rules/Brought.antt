-- What paths from the entry bring: from vertex to vertex the version of the last label, dropped ones included; and the computed sets hold it.
-- Assumes nothing.
use mathlib.Core.Path.{◌≡◌, refl, sym, ap, subst, ◌∙◌}
use mathlib.Core.Bool.{Bool, true, false, not, ◌&&◌, cond, true≢false}
use mathlib.Core.List.{List, [], ◌∷◌, ◌++◌}
use mathlib.Core.Logic.Iff
use mathlib.Core.Logic.{◌↔◌}
use mathlib.Core.Option.{Option, none, some, none-ne-some}
use Prim.Native.Nat.{ℕ, ◌^◌, ◌<◌}
use lib.Dec.{T, not_T}
use lib.Ieee.Bits.{is_true, is_false}
use Rattle.flow.specs.Paths.{Edge}
use Rattle.routine.specs.Actions.{is_reference, is_remap}
use Rattle.routine.specs.Arrays.{initial}
use Rattle.routine.specs.Layout.{entry}
use Rattle.routine.specs.declared.action.Action.{Action}
use Rattle.sets.specs.Sets.{has, width, every_version}
use Rattle.sets.proofs.Laws.{same_members}
use Rattle.words.proofs.Tests.{by_test, cond-not, and_iff}
use Rattle.labels.specs.Ambiguity.{Brings, brought_gives, brought_passes, brought_sets, brought_of}
use Rattle.labels.specs.Events.{edge_bytes, event, is_label, version_of, version}
use Rattle.labels.specs.Reaching.{ArrivesBy, or_last, last_version, is_reached, reaching_of}
use Rattle.labels.proofs.Rules.Ambiguity.{brings_exact}
use Rattle.labels.proofs.Rules.Arrivals.{reached_exact, arrives_append, last_snoc, Carried, Last, last_of, last_there}
use Rattle.labels.proofs.Rules.Events.{entry_remaps}
use Rattle.labels.proofs.Rules.Proper.{Proper}
use Rattle.labels.proofs.Rules.Reaching.{reaching_fits}
use Rattle.labels.proofs.Rules.Versions.{versions_exact, versions_fit}

-- the version named after an event: a label's own, else the one named before
abbrev pub named_after : Action → ℕ → ℕ
named_after x k = cond (is_remap x) (version_of x) k

own_or : (b : Bool) (j k : ℕ) → or_last (some k) (cond b (some j) none) ≡ some (cond b j k)
own_or true j k = refl
own_or false j k = refl

module _ (file : List ℕ) (a : ℕ) where
  -- the last label's version, one vertex on
  pub last_after : (us : List ℕ) (u : ℕ) {k : ℕ} → last_version (is_label file a) (version file a) us ≡ some k
      → last_version (is_label file a) (version file a) (us ++ (u ∷ [])) ≡ some (named_after (event file a u) k)
  unfolding version
  last_after us u {k} e =
      last_snoc (is_label file a) (version file a) us u
      ∙ ap (λ (o : Option ℕ). or_last o (cond (is_label file a u) (some (version file a u)) none)) e
      ∙ own_or (is_label file a u) (version file a u) k

  -- the entry labels every array
  pub last_entry : last_version (is_label file a) (version file a) (entry ∷ []) ≡ some (initial file a)
  unfolding version
  last_entry = ap (λ (x : Action). or_last (cond (is_remap x) (some (version_of x)) none) none) (entry_remaps file a)

  pub brings_first : {w : ℕ} → Edge (edge_bytes file) entry w → Brings file a w (initial file a)
  brings_first e = record { before = entry ∷ []; path = (refl, e); brings = last_entry }

  pub brings_next : {v w k : ℕ} → Brings file a v k → Edge (edge_bytes file) v w → Brings file a w (named_after (event file a v) k)
  brings_next {v} {w} b e = record {
    before = b.before ++ (v ∷ []);
    path = arrives_append (edge_bytes file) b.before v [] w b.path e;
    brings = last_after b.before v b.brings;
  }

-- ---- computed

module _ (file : List ℕ) (a : ℕ) (proper : Proper file a) (v : ℕ) where
  -- a reached label that has version k and leads to v past no other
  carried_exact : (k : ℕ) → T (has (brought_of file a v) k) ↔ Carried (is_label file a) (version file a) proper.ends v k
  unfolding brought_of brought_sets brought_gives brought_passes
  carried_exact = versions_exact file a proper false _ _ (λ u. is_reached file u && is_label file a u) (λ u. not (is_label file a u))
      (λ u. refl) (λ u. cond-not (is_label file a u) 0 every_version) _ (λ u. and_iff (is_reached file u) _ Iff.rfl Iff.rfl) v

  -- the set holds what paths bring; to the entry they bring nothing
  pub brought_exact : (k : ℕ) → T (has (brought_of file a v) k) ↔ Brings file a v k
  brought_exact k = (
    λ h. let p = last_there (is_label file a) (version file a) proper.ends v k ((carried_exact k).0 h) in
        record { before = p.0; path = p.1; brings = p.2 },
    λ b. (carried_exact k).1 (carried b.before b.path b.brings),
  )
    where
      carried : (before : List ℕ) → ArrivesBy file before v → last_version (is_label file a) (version file a) before ≡ some k
          → Carried (is_label file a) (version file a) proper.ends v k
      carried [] p e = absurd (none-ne-some k e)
      carried (u ∷ us) p e = subst (Last (is_label file a) (version file a) proper.ends u v) e
          (last_of (is_label file a) (version file a) proper.ends u us v ((reached_exact proper.ends u).1 ([], p.0)) p.1)

  pub brought_fits : brought_of file a v < 2 ^ width
  unfolding brought_of brought_sets brought_gives
  brought_fits = versions_fit file a proper false _ _ (λ u. is_reached file u && is_label file a u) (λ u. not (is_label file a u)) (λ u. refl) v

  -- to a reference they bring what reaches it
  pub brought_reaching : T (is_reference (event file a v)) → brought_of file a v ≡ reaching_of file a v
  brought_reaching reference =
      let b = brought_of file a v in
      let r = reaching_of file a v in
      same_members width b r brought_fits (reaching_fits file a proper v) (λ k _.
      let f = Iff.trans (brought_exact k) (Iff.symm (brings_exact file a proper v reference k)) in
      by_test (has r k)
      (λ e. is_true (has b k) (f.1 (subst T (sym e) tt)) ∙ sym e)
      (λ e. is_false (has b k) (not_T (has b k) (λ h. true≢false (sym (is_true (has r k) (f.0 h)) ∙ e))) ∙ sym e))
