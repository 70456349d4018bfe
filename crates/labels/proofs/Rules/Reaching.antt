-- Reaching sets: the computed sets hold what the rule by paths says, for every vertex, also those that no path reaches.
-- Assumes nothing.
use mathlib.Core.Path.{◌≡◌, refl, sym, ap, subst, ◌∙◌}
use mathlib.Core.Bool.{Bool, true, false, not, ◌&&◌, ◌||◌, cond}
use mathlib.Core.List.{List, [], ◌∷◌}
use mathlib.Core.Logic.Iff
use mathlib.Core.Logic.{◌↔◌, ◌⊎◌, inl, inr, ⊎_elim}
use mathlib.Core.Option.{Option, none, some, none-ne-some}
use Prim.Native.Nat.{ℕ, ◌^◌, ◌<◌}
use lib.Dec.{T, eqb, T_not, not_T}
use lib.ListN.{get_or}
use lib.Pow.{pow_pos}
use lib.Ieee.Bits.{is_false}
use Rattle.flow.specs.Paths.{Edge, Joined, Finds}
use Rattle.flow.specs.Solver.{Leads}
use Rattle.words.proofs.Tests.{at_cond, cond-not, either, or_iff, and_iff, eqb_iff}
use Rattle.flow.proofs.Paths.{list_iff}
use Rattle.routine.specs.Layout.{entry}
use Rattle.sets.specs.Sets.{has, width, every_version}
use Rattle.sets.proofs.Laws.{has_zero, same_members}
use Rattle.labels.specs.Events.{edge_bytes, event, version}
use Rattle.routine.specs.Arrays.{kind, initial, is_in_or_inout}
use Rattle.labels.proofs.Rules.Proper.{Proper}
use Rattle.labels.specs.Reaching.{ArrivesBy, last_version, or_initial, Reaches, is_reached, reach_gives, reach_passes, reach_sets, reaching_of}
use Rattle.labels.specs.Uses.{is_kept}
use Rattle.labels.proofs.Rules.Arrivals.{reached_exact, last_none, Last, last_of, last_there}
use Rattle.flow.proofs.Members.{member_cond, member_single}
use Rattle.labels.proofs.Rules.Versions.{single_fits, versions_exact, versions_fit}

-- the entry's version is the initial one
entry-version : (file : List ℕ) (a u : ℕ) → u ≡ entry → version file a u ≡ initial file a
unfolding version event
entry-version file a u e = ap (version file a) e

some_iff : (b : Bool) (j k : ℕ) → (cond b (some j) none ≡ some k) ↔ (T b × (j ≡ k))
some_iff true j k = (λ e. (tt, cc), λ p. ap some p.1)
some_iff false j k = (λ e. absurd (none-ne-some k e), λ p. absurd p.0)

module _ (file : List ℕ) (a : ℕ) (proper : Proper file a) (v k : ℕ) where
  -- ---- at the entry

  initial_iff : (or_initial file a none ≡ some k) ↔ (T (is_in_or_inout (kind file a)) × (initial file a ≡ k))
  initial_iff = some_iff (is_in_or_inout (kind file a)) (initial file a) k

  at_entry : v ≡ entry → T (has (cond (is_in_or_inout (kind file a)) (2 ^ initial file a) 0) k) ↔ Reaches file a v k
  at_entry x =
      let f = member_cond (is_in_or_inout (kind file a)) (2 ^ initial file a) k Iff.rfl (member_single (initial file a) k) in
      (λ h. record { before = []; path = x; brings = initial_iff.1 (f.0 h) }, λ r. f.1 (go r.before r.path r.brings))
    where
      enters : (u : ℕ) (us : List ℕ) → Joined (edge_bytes file) u us v → ⊥
      enters u [] e = proper.none_enters u (subst (Edge (edge_bytes file) u) x e)
      enters u (w ∷ us) e = enters w us e.1

      go : (before : List ℕ) → ArrivesBy file before v → or_initial file a (last_version (is_kept file a) (version file a) before) ≡ some k
          → T (is_in_or_inout (kind file a)) × (initial file a ≡ k)
      go [] p e = initial_iff.0 e
      go (u ∷ us) p e = absurd (enters u us p.1)

  -- ---- elsewhere

  -- a reached vertex, kept or the entry of in and inout, that has version k and leads to v past no kept label
  abbrev Found : Type 0
  Found = Finds (Leads (edge_bytes file) false (λ u. not (is_kept file a u)))
      (λ u. (T (is_reached file u) × (T (is_kept file a u) ⊎ ((u ≡ entry) × T (is_in_or_inout (kind file a))))) × (version file a u ≡ k)) v

  sets_exact : T (has (get_or (reach_sets file a) v 0) k) ↔ Found
  unfolding reach_sets reach_gives reach_passes
  sets_exact = versions_exact file a proper false _ _
      (λ u. is_reached file u && (is_kept file a u || (eqb u entry && is_in_or_inout (kind file a)))) (λ u. not (is_kept file a u)) (λ u. refl) (λ u. cond-not (is_kept file a u) 0 every_version)
      _ (λ u. and_iff (is_reached file u) _ Iff.rfl (or_iff (is_kept file a u) _ Iff.rfl (and_iff (eqb u entry) _ (eqb_iff u entry) Iff.rfl))) v k

  reaches : Found → Reaches file a v k
  reaches f = ⊎_elim kept (λ i. ⊎_elim kept (first i) (either (is_kept file a f.place))) f.met.0.1
    where
      kept : T (is_kept file a f.place) → Reaches file a v k
      kept m =
          let p = last_there (is_kept file a) (version file a) proper.ends v k (record { place = f.place; way = f.way; met = ((f.met.0.0, m), f.met.1) }) in
          record { before = p.0; path = p.1; brings = ap (or_initial file a) p.2 }

      first : (f.place ≡ entry) × T (is_in_or_inout (kind file a)) → T (not (is_kept file a f.place)) → Reaches file a v k
      first i m =
          let l = (list_iff (edge_bytes file) (λ u. not (is_kept file a u)) f.place v).0 f.way in
          record {
            before = f.place ∷ l.inner;
            path = (i.0, l.joined);
            brings =
                ap (or_initial file a) (last_none (is_kept file a) (version file a) (f.place ∷ l.inner) (m, l.pass))
                ∙ initial_iff.1 (i.1, sym (entry-version file a f.place i.0) ∙ f.met.1);
          }

  found : (v ≡ entry → ⊥) → (before : List ℕ) → ArrivesBy file before v → or_initial file a (last_version (is_kept file a) (version file a) before) ≡ some k → Found
  found inside [] p e = absurd (inside p)
  found inside (u ∷ us) p e = go (last_version (is_kept file a) (version file a) (u ∷ us)) (last_of (is_kept file a) (version file a) proper.ends u us v start p.1) e
    where
      start : T (is_reached file u)
      start = (reached_exact proper.ends u).1 ([], p.0)

      go : (o : Option ℕ) → Last (is_kept file a) (version file a) proper.ends u v o → or_initial file a o ≡ some k → Found
      go none l e =
          let i = initial_iff.0 e in
          record { place = u; way = l.1; met = ((start, inr (p.0, i.0)), entry-version file a u p.0 ∙ i.1) }
      go (some j) f e = record { place = f.place; way = f.way; met = ((f.met.0.0, inl f.met.0.1), cc f.met.1) }

  -- reaching: the leaving version of the last kept label on some path from the entry, or without one the initial version of in and inout
  pub reaching_exact : T (has (reaching_of file a v) k) ↔ Reaches file a v k
  unfolding reaching_of
  reaching_exact = go (eqb v entry) (eqb_iff v entry)
    where
      go : (b : Bool) → T b ↔ (v ≡ entry) → T (has (cond b (cond (is_in_or_inout (kind file a)) (2 ^ initial file a) 0) (get_or (reach_sets file a) v 0)) k) ↔ Reaches file a v k
      go true f = at_entry (f.0 tt)
      go false f = (λ h. reaches (sets_exact.0 h), λ r. sets_exact.1 (found f.1 r.before r.path r.brings))

module _ (file : List ℕ) (a : ℕ) (proper : Proper file a) (v : ℕ) where
  -- a reaching set has no version beyond the width
  pub reaching_fits : reaching_of file a v < 2 ^ width
  unfolding reaching_of reach_sets reach_gives version event
  reaching_fits =
      at_cond (λ m. m < 2 ^ width) (eqb v entry)
      (λ _. single_fits file a proper (is_in_or_inout (kind file a)) entry)
      (λ _. versions_fit file a proper false _ _ (λ u. is_reached file u && (is_kept file a u || (eqb u entry && is_in_or_inout (kind file a)))) (λ u. not (is_kept file a u)) (λ u. refl) v)

  -- unreachable vertices are accepted; their reaching sets are empty
  pub reaching_none : T (not (is_reached file v)) → reaching_of file a v ≡ 0
  reaching_none n = same_members width (reaching_of file a v) 0 reaching_fits (pow_pos width) (λ k _. is_false _ (not_T (has (reaching_of file a v) k) (none k)) ∙ sym (has_zero k))
    where
      none : (k : ℕ) → T (has (reaching_of file a v) k) → ⊥
      none k h =
          let r = (reaching_exact file a proper v k).0 h in
          T_not (is_reached file v) n ((reached_exact proper.ends v).1 (r.before, r.path))
