-- 42: the versions in which a directive can leave an array that it remaps, computed, are those of the rule by paths; it is refused exactly if
-- there are two mappings.
-- Assumes nothing.
use mathlib.Core.Path.{◌≡◌, refl, sym, ap, subst, ◌∙◌}
use mathlib.Core.Bool.{Bool, true, false, not, ◌||◌, cond, true≢false}
use mathlib.Core.List.{List, [], ◌∷◌}
use mathlib.Core.Logic.Iff
use mathlib.Core.Logic.{◌↔◌, inl, inr, ⊎_elim}
use Prim.Native.Nat.{ℕ, zero, suc, ◌^◌, ◌≤◌, ◌<◌}
use native.Mathlib.Nat.{le_of_suc-le-suc, eq-or-lt_of_le, pow-suc}
use native.Mathlib.Omega.{arith}
use borrow.Author.Tests.{eqb-true}
use lib.Bits.{bit_or}
use lib.Dec.{T, eqb, T_not, not_T}
use lib.Ieee.Bits.{is_true, is_false}
use lib.ListN.{length, get_or}
use Rattle.flow.proofs.Members.{member_or, member_cond}
use Rattle.labels.specs.Reaching.{Arrives}
use Rattle.sets.proofs.Laws.{has_zero, has_or, several_two, two_several}
use Rattle.sets.specs.Sets.{width, has, Two, several}
use Rattle.words.proofs.Tests.{at_cond, by_test, cond-not, either, eqb_iff}
use Rattle.directives.specs.Directives.{directive}
use Rattle.directives.specs.Layout.{templates, arrays, entry, edge_bytes}
use Rattle.directives.specs.declared.spread.Mapping.{Mapping}
use Rattle.directives.specs.declared.vertex.Directive.{Directive}
use Rattle.directives.specs.declared.vertex.Directive.TheVariants.{Nothing, Realign, Redistribute}
use Rattle.mappings.specs.Along.{state_by, remaps_in}
use Rattle.mappings.specs.Computed.{given_to, versions_of, version_set, given_set, held_sets, elsewhere, left_by, left_set}
use Rattle.mappings.specs.Converted.{is_listed, version_in}
use Rattle.mappings.specs.Rules.{Remaps, CanLeave, InTwo, mapping_after}
use Rattle.mappings.specs.Theorem.{Formed}
use Rattle.mappings.proofs.Along.{unmoved}
use Rattle.mappings.proofs.Facts.{brings_right}
use Rattle.mappings.proofs.Given.{given_exact, after_listed}
use Rattle.mappings.proofs.Held.{set_exact, held_exact}
use Rattle.mappings.proofs.Lists.{listed_first, number_of}

-- every mask is below a power of two
under_power : (m : ℕ) → m < 2 ^ m
under_power zero = omega arith
under_power (suc m) = omega (arith, pow-suc 2 m, under_power m)

module _ {file : List ℕ} (formed : Formed file) (a : ℕ) (in_a : a < arrays file) (few : length (versions_of file a) ≤ width) (v : ℕ) where
  abbrev all : List Mapping
  all = versions_of file a

  -- ---- an array that is remapped

  remaps_iff : T (not (eqb (given_set file a v) 0)) ↔ Remaps file a v
  unfolding given_set version_set
  remaps_iff = (
    λ h. go (given_to file a v) refl h,
    λ r. let i = (given_exact formed a in_a v r.mapped).1 r.gives in
        let k = version_in all r.mapped in
        not_T (eqb (given_set file a v) 0)
        (λ z. subst T (has_zero k) (subst (λ (n : ℕ). T (has n k)) ((eqb_iff (given_set file a v) 0).0 z) ((set_exact all (given_to file a v) k).1 (r.mapped, i, refl)))),
  )
    where
      go : (g : List Mapping) → given_to file a v ≡ g → T (not (eqb (version_set all g) 0)) → Remaps file a v
      go [] e h = absurd h
      go (m ∷ ms) e h = record { mapped = m; gives = (given_exact formed a in_a v m).0 (subst (λ (g : List Mapping). T (is_listed m g)) (sym e) (listed_first m ms)) }

  -- ---- aligned elsewhere

  record Elsewhere (t n k : ℕ) : Type 0 where
    template : ℕ
    below : template < n
    other : template ≡ t → ⊥
    holds : T (has (get_or (held_sets file a template) v 0) k)

  elsewhere_iff : (t n k : ℕ) → T (has (elsewhere file a v t n) k) ↔ Elsewhere t n k
  unfolding elsewhere
  elsewhere_iff t zero k = (λ h. absurd (subst T (has_zero k) h), λ e. absurd (omega (arith, e.below)))
  elsewhere_iff t (suc n) k =
      let ih = elsewhere_iff t n k in
      let one = member_cond (not (eqb n t)) (get_or (held_sets file a n) v 0) k Iff.rfl Iff.rfl in
      let f = member_or (elsewhere file a v t n) (cond (not (eqb n t)) (get_or (held_sets file a n) v 0) 0) k ih one in
      let e = ap (λ (x : ℕ). bit_or (elsewhere file a v t n) x) (cond-not (eqb n t) 0 (get_or (held_sets file a n) v 0)) in (
        λ h. ⊎_elim
            (λ x. record { template = x.template; below = let z = x.below in omega arith; other = x.other; holds = x.holds })
            (λ x. record { template = n; below = omega arith; other = λ q. T_not (eqb n t) x.0 ((eqb_iff n t).1 q); holds = x.1 })
            (f.0 (subst (λ (x : ℕ). T (has x k)) e h)),
        λ x. subst (λ (y : ℕ). T (has y k)) (sym e) (f.1 (⊎_elim
            (λ q. inr (not_T (eqb n t) (λ z. x.other (q ∙ (eqb_iff n t).0 z)), subst (λ (s : ℕ). T (has (get_or (held_sets file a s) v 0) k)) q x.holds))
            (λ l. inl (record { template = x.template; below = l; other = x.other; holds = x.holds }))
            (eq-or-lt_of_le (le_of_suc-le-suc x.below)))),
      )

  -- ---- what can be left

  -- some path leaves v with the array in version k
  pub record LeftIn (k : ℕ) : Type 0 where
    pub before : List ℕ
    pub path : Arrives (edge_bytes file) before v
    pub is : version_in all (mapping_after file before v a) ≡ k

  -- v has a directive, so it is not the entry
  inner : {t : ℕ} {m : Mapping} → directive file v ≡ Redistribute t m → v ≡ entry → ⊥
  inner e z = let y : ◌≡◌ {A = ℕ} 0 1 = cc (sym e ∙ ap (directive file) z ∙ formed.entry_silent) in omega arith

  module _ (r : Remaps file a v) (k : ℕ) where
    given_left : T (has (given_set file a v) k) → LeftIn k
    unfolding given_set
    given_left h =
        let p = (set_exact all (given_to file a v) k).0 h in
        let g = (given_exact formed a in_a v p.0).0 p.1 in
        record { before = g.before; path = g.path; is = ap (version_in all) g.is ∙ p.2 }

    left_given : (l : LeftIn k) → T (remaps_in (state_by file l.before) (directive file v) a) → T (has (given_set file a v) k)
    unfolding given_set
    left_given l t =
        let m = mapping_after file l.before v a in
        (set_exact all (given_to file a v) k).1 (m, (given_exact formed a in_a v m).1 (record { before = l.before; path = l.path; remaps = t; is = refl }), l.is)

    -- the directive is d
    other_left : (d : Directive) → directive file v ≡ d → T (has (left_by file a v d) k) → LeftIn k
    other_left Nothing e h = absurd (subst T (has_zero k) h)
    other_left (Realign b x) e h = absurd (subst T (has_zero k) h)
    other_left (Redistribute t m) e h =
        let x = (elsewhere_iff t (templates file) k).0 h in
        let o = (held_exact formed a in_a few x.template v k (inner e)).0 x.holds in
        let s = state_by file o.before in
        let still : remaps_in s (directive file v) a ≡ false =
        ap (λ (d : Directive). remaps_in s d a) e ∙ is_false _ (not_T (eqb (s.aligned a).template t) (λ z. x.other (sym o.held.0 ∙ (eqb_iff _ t).0 z))) in
        record { before = o.before; path = o.path; is = ap (version_in all) (unmoved s (directive file v) a still) ∙ o.held.1 }

    left_other : (d : Directive) → directive file v ≡ d → (l : LeftIn k) → T (not (remaps_in (state_by file l.before) (directive file v) a)) → T (has (left_by file a v d) k)
    left_other Nothing e l n = absurd (subst (λ (d : Directive). T (remaps_in (state_by file r.gives.before) d a)) e r.gives.remaps)
    left_other (Realign b x) e l n =
        absurd (T_not (eqb a b)
        (subst (λ (d : Directive). T (not (remaps_in (state_by file l.before) d a))) e n)
        (subst (λ (d : Directive). T (remaps_in (state_by file r.gives.before) d a)) e r.gives.remaps))
    left_other (Redistribute t m) e l n =
        let s = state_by file l.before in
        let right = brings_right formed a in_a v (inner e) (s.aligned a) (record { before = l.before; path = l.path; is = refl }) in
        let away : T (not (eqb (s.aligned a).template t)) = subst (λ (d : Directive). T (not (remaps_in s d a))) e n in
        (elsewhere_iff t (templates file) k).1 (record {
          template = (s.aligned a).template;
          below = right.0;
          other = λ z. T_not (eqb (s.aligned a).template t) away ((eqb_iff _ t).1 z);
          holds = (held_exact formed a in_a few (s.aligned a).template v k (inner e)).1 (record {
            before = l.before;
            path = l.path;
            held = (refl, sym (ap (version_in all) (unmoved s (directive file v) a (is_false _ n))) ∙ l.is);
          });
        })

  -- the set holds k exactly if the directive remaps the array and some path leaves v with it in version k
  left_exact : (k : ℕ) → T (has (left_set file a v) k) ↔ (Remaps file a v × LeftIn k)
  unfolding left_set
  left_exact k =
      let g = given_set file a v in
      let o = left_by file a v (directive file v) in
      let both = member_or g o k Iff.rfl Iff.rfl in
      let f = member_cond (not (eqb g 0)) (bit_or g o) k remaps_iff both in
      let e = cond-not (eqb g 0) 0 (bit_or g o) in (
        λ h. let p = f.0 (subst (λ (x : ℕ). T (has x k)) e h) in
            (p.0, ⊎_elim (given_left p.0 k) (other_left p.0 k (directive file v) refl) p.1),
        λ p. subst (λ (x : ℕ). T (has x k)) (sym e) (f.1 (
          p.0,
          ⊎_elim
              (λ t. inl (left_given p.0 k p.1 t))
              (λ t. inr (left_other p.0 k (directive file v) refl p.1 t))
              (either (remaps_in (state_by file p.1.before) (directive file v) a)),
        )),
      )

  -- 42 exactly: ones of the mask counted; above one means two mappings
  pub two_exact : T (several (left_set file a v)) ↔ InTwo file a v
  two_exact = (
    λ h. let t = several_two (left_set file a v) (left_set file a v) (under_power (left_set file a v)) (is_true (several (left_set file a v)) h) in
        let p = (left_exact t.first).0 (subst T (sym t.has_first) tt) in
        let q = (left_exact t.second).0 (subst T (sym t.has_second) tt) in
        record {
          first = mapping_after file p.1.before v a;
          second = mapping_after file q.1.before v a;
          differ = λ e. t.differ (sym p.1.is ∙ ap (version_in all) e ∙ q.1.is);
          leaves_first = record { remapped = p.0; before = p.1.before; path = p.1.path; is = refl };
          leaves_second = record { remapped = q.0; before = q.1.before; path = q.1.path; is = refl };
        },
    λ i. subst T (sym (two_several (left_set file a v) (record {
      first = version_in all i.first;
      second = version_in all i.second;
      differ = λ e. i.differ (sym (listed i.leaves_first i.first) ∙ ap (λ (n : ℕ). get_or all n i.first) e ∙ listed i.leaves_second i.first);
      has_first = is_true _ (left i.leaves_first);
      has_second = is_true _ (left i.leaves_second);
    }))) tt,
  )
    where
      left : {m : Mapping} → CanLeave file a v m → T (has (left_set file a v) (version_in all m))
      left {m} c = (left_exact (version_in all m)).1 (c.remapped, record { before = c.before; path = c.path; is = ap (version_in all) c.is })

      listed : {m : Mapping} → CanLeave file a v m → (d : Mapping) → get_or all (version_in all m) d ≡ m
      listed {m} c = (number_of m all (subst (λ (x : Mapping). T (is_listed x all)) c.is (after_listed formed a in_a c.before v c.path))).1

-- a directive that can leave the array in one version alone gives it one
module _ (file : List ℕ) (a v : ℕ) where
  abbrev given : ℕ
  given = given_set file a v

  left_of : (k : ℕ) → has given k ≡ true → has (left_set file a v) k ≡ true
  unfolding left_set
  left_of k h =
      at_cond (λ (m : ℕ). has m k ≡ true) (eqb given 0)
      (λ z. absurd (true≢false (sym h ∙ ap (λ (m : ℕ). has m k) (eqb-true given 0 z) ∙ has_zero k)))
      (λ _. has_or given (left_by file a v (directive file v)) k ∙ ap (λ (b : Bool). b || has (left_by file a v (directive file v)) k) h)

  two_left : several given ≡ true → Two (left_set file a v)
  two_left e =
      let t = several_two given given (under_power given) e in
      record { first = t.first; second = t.second; differ = t.differ; has_first = left_of t.first t.has_first; has_second = left_of t.second t.has_second }

  pub given_single : several (left_set file a v) ≡ false → several given ≡ false
  given_single none = by_test (several given) (λ e. absurd (true≢false (sym (two_several (left_set file a v) (two_left e)) ∙ none))) (λ e. e)
