-- The third kind of computed facts is exact: the versions in which paths from the entry bring an array while it is aligned with a template.
-- Assumes nothing.
use mathlib.Core.Path.{◌≡◌, refl, sym, ap, subst, ◌∙◌}
use mathlib.Core.Bool.{Bool, true, false, not, ◌||◌, cond}
use mathlib.Core.List.{List, [], ◌∷◌, ◌++◌}
use mathlib.Core.Logic.Iff
use mathlib.Core.Logic.{◌↔◌, inl, inr, ⊎_elim}
use Prim.Native.Nat.{ℕ, ◌^◌, ◌≤◌, ◌<◌}
use native.Mathlib.Omega.{arith}
use borrow.Author.Tests.{ne_eqb}
use lib.Dec.{T, eqb}
use lib.Ieee.Bits.{is_true, is_false}
use lib.ListN.{length, get_or}
use Rattle.flow.proofs.Members.{member_or, member_cond, member_single}
use Rattle.flow.proofs.Paths.{extend, list_iff}
use Rattle.flow.specs.Paths.{Edge, last, AllPass, Finds}
use Rattle.flow.specs.Solver.{Leads}
use Rattle.labels.proofs.Rules.Arrivals.{arrives_append}
use Rattle.labels.proofs.Rules.Tables.{solved}
use Rattle.labels.specs.Reaching.{Arrives}
use Rattle.sets.proofs.Laws.{has_zero, has_full_if}
use Rattle.sets.specs.Sets.{width, every_version, has}
use Rattle.words.proofs.Tests.{at_cond, cond-not, either, or_iff, eqb_iff}
use Rattle.directives.specs.Directives.{directive}
use Rattle.directives.specs.Layout.{arrays, vertices, entry, edge_bytes}
use Rattle.directives.specs.declared.array.Alignment.{Alignment}
use Rattle.directives.specs.declared.spread.Mapping.{Mapping}
use Rattle.directives.specs.declared.vertex.Directive.{Directive}
use Rattle.directives.specs.declared.vertex.Directive.TheVariants.{Nothing, Realign, Redistribute}
use Rattle.mappings.specs.Along.{State, initial_state, after, along, state_by, mapping, remaps_in}
use Rattle.mappings.specs.Computed.{realigns, redistributes, changes, aligns_with, given_to, versions_of, version_set, given_set, held_sets}
use Rattle.mappings.specs.Converted.{is_listed, version_in}
use Rattle.mappings.specs.Rules.{mapping_after}
use Rattle.mappings.specs.Theorem.{Formed}
use Rattle.mappings.proofs.Along.{unmoved, along-append, state_next, state_first, entry-after, by_path}
use Rattle.mappings.proofs.Facts.{same_alignment}
use Rattle.mappings.proofs.Given.{given_exact, initial_number, after_listed}
use Rattle.mappings.proofs.Lists.{listed_none, listed_cons, listed_first, listed_later, number_of}

-- ---- mappings as a set of versions

pub set_exact : (ms ns : List Mapping) (k : ℕ) → T (has (version_set ms ns) k) ↔ ((m : Mapping) × T (is_listed m ns) × (version_in ms m ≡ k))
unfolding version_set
set_exact ms [] k = (λ h. absurd (subst T (has_zero k) h), λ p. absurd (listed_none p.0 p.1))
set_exact ms (n ∷ ns) k =
    let f = member_or (version_set ms ns) (2 ^ version_in ms n) k (set_exact ms ns k) (member_single (version_in ms n) k) in (
      λ h. ⊎_elim (λ p. (p.0, listed_later p.0 n ns p.1, p.2)) (λ e. (n, listed_first n ns, e)) (f.0 h),
      λ p. f.1 (⊎_elim (λ e. inr (ap (version_in ms) e ∙ p.2)) (λ g. inl (p.0, g, p.2)) ((listed_cons p.0 n ns).0 p.1)),
    )

-- ---- what is passed

neither : (b c : Bool) → T (not (b || c)) → T (not b) × T (not c)
neither false c h = (tt, h)
neither true c h = absurd h

module _ {file : List ℕ} (formed : Formed file) (a : ℕ) (in_a : a < arrays file) (few : length (versions_of file a) ≤ width) (t : ℕ) where
  abbrev es : List ℕ
  es = edge_bytes file

  abbrev all : List Mapping
  all = versions_of file a

  -- the array is aligned with the template, in version k
  abbrev pub Held : ℕ → State → Type 0
  Held k s = ((s.aligned a).template ≡ t) × (version_in all (mapping s a) ≡ k)

  -- what a vertex gives, and passes
  abbrev gives : ℕ → ℕ
  gives u = cond (eqb u entry) (cond (eqb ((initial_state file).aligned a).template t) 1 0) (cond (aligns_with t (directive file u)) (given_set file a u) 0)

  abbrev through : ℕ → Bool
  through u = not (changes a t (directive file u))

  abbrev Found : ℕ → ℕ → Type 0
  Found v k = Finds (Leads es false through) (λ u. T (has (gives u) k)) v

  -- ---- what is given: some path brings it

  record Made (u k : ℕ) : Type 0 where
    before : List ℕ
    path : Arrives es before u
    held : Held k (after (directive file u) (state_by file before))

  -- by the entry: the initial version, if the array starts with the template
  initial_held : (k : ℕ) → T (has (cond (eqb ((initial_state file).aligned a).template t) 1 0) k) ↔ Held k (initial_state file)
  initial_held k =
      let f = member_cond (eqb ((initial_state file).aligned a).template t) 1 k (eqb_iff _ t) (member_single 0 k) in
      let z = initial_number formed a in_a in
      (λ h. ((f.0 h).0, z ∙ (f.0 h).1), λ g. f.1 (g.0, sym z ∙ g.1))

  made_entry : (u k : ℕ) → u ≡ entry → T (has (cond (eqb ((initial_state file).aligned a).template t) 1 0) k) → Made u k
  unfolding along
  made_entry u k e h =
      let s : after (directive file u) (initial_state file) ≡ initial_state file = ap (λ (x : ℕ). after (directive file x) (initial_state file)) e ∙ entry-after formed in
      record { before = []; path = e; held = subst (Held k) (sym s) ((initial_held k).0 h) }

  -- by a directive that remaps the array and leaves it aligned with the template
  template_after : (d : Directive) (s : State) → T (remaps_in s d a) → T (aligns_with t d) → ((after d s).aligned a).template ≡ t
  template_after Nothing s r h = absurd r
  template_after (Realign b x) s r h = ap (λ (c : Bool). (cond c x (s.aligned a)).template) (is_true (eqb a b) r) ∙ (eqb_iff x.template t).0 h
  template_after (Redistribute q m) s r h = (eqb_iff (s.aligned a).template q).0 r ∙ (eqb_iff q t).0 h

  made_inner : (u k : ℕ) → T (has (cond (aligns_with t (directive file u)) (given_set file a u) 0) k) → Made u k
  unfolding given_set
  made_inner u k h =
      let p = (member_cond (aligns_with t (directive file u)) (given_set file a u) k Iff.rfl (set_exact all (given_to file a u) k)).0 h in
      let g = (given_exact formed a in_a u p.1.0).0 p.1.1 in
      record {
        before = g.before;
        path = g.path;
        held = (template_after (directive file u) (state_by file g.before) g.remaps p.0, ap (version_in all) g.is ∙ p.1.2);
      }

  made : (u k : ℕ) → T (has (gives u) k) → Made u k
  made u k =
      at_cond (λ (s : ℕ). T (has s k) → Made u k) (eqb u entry)
      (λ e. made_entry u k ((eqb_iff u entry).0 (subst T (sym e) tt)))
      (λ e. made_inner u k)

  -- ---- what is passed stays

  aligned_same : (d : Directive) (s : State) → T (not (changes a t d)) → ((after d s).aligned a).template ≡ (s.aligned a).template
  aligned_same d s h = ap (λ (x : Alignment). x.template) (same_alignment formed a in_a d s (neither (realigns a d) (redistributes t d) h).0)

  quiet : (d : Directive) (s : State) → T (not (changes a t d)) → (s.aligned a).template ≡ t → remaps_in s d a ≡ false
  quiet Nothing s h e = refl
  quiet (Realign b x) s h e = is_false (eqb a b) (neither (eqb a b) false h).0
  quiet (Redistribute r m) s h e = ap (λ (n : ℕ). eqb n r) e ∙ is_false (eqb t r) h

  stays : (k u : ℕ) (s : State) → T (through u) → Held k s ↔ Held k (after (directive file u) s)
  stays k u s h =
      let d = directive file u in
      let same = aligned_same d s h in (
        λ g. (same ∙ g.0, ap (version_in all) (unmoved s d a (quiet d s h g.0)) ∙ g.1),
        λ g. let e = sym same ∙ g.0 in (e, sym (ap (version_in all) (unmoved s d a (quiet d s h e))) ∙ g.1),
      )

  along_stays : (k : ℕ) (us : List ℕ) (s : State) → AllPass through us → Held k s → Held k (along file s us)
  unfolding along
  along_stays k [] s h g = g
  along_stays k (u ∷ us) s h g = along_stays k us (after (directive file u) s) h.1 ((stays k u s h.0).0 g)

  -- some path from the entry brings the array to v aligned with the template, in version k
  pub record HeldOn (v k : ℕ) : Type 0 where
    pub before : List ℕ
    pub path : Arrives es before v
    pub held : Held k (state_by file before)

  found_held : (v k : ℕ) → Found v k → HeldOn v k
  unfolding along
  found_held v k f =
      let m = made f.place k f.met in
      let l = (list_iff es through f.place v).0 f.way in
      record {
        before = m.before ++ f.place ∷ l.inner;
        path = arrives_append es m.before f.place l.inner v m.path l.joined;
        held =
            subst (Held k) (sym (along-append file (initial_state file) m.before (f.place ∷ l.inner)))
            (along_stays k l.inner (after (directive file f.place) (state_by file m.before)) l.pass m.held);
      }

  -- ---- what a path brings is found

  concerned : (d : Directive) (s : State) → T (changes a t d) → ((after d s).aligned a).template ≡ t → T (remaps_in s d a) × T (aligns_with t d)
  concerned Nothing s h e = absurd h
  concerned (Realign b x) s h e =
      let y : T (eqb a b) = only (eqb a b) h in
      (y, (eqb_iff x.template t).1 (sym (ap (λ (c : Bool). (cond c x (s.aligned a)).template) (is_true (eqb a b) y)) ∙ e))
    where
      only : (b : Bool) → T (b || false) → T b
      only b h = ⊎_elim (λ p. p) (λ p. absurd p) ((or_iff b false Iff.rfl Iff.rfl).0 h)
  concerned (Redistribute r m) s h e =
      let y : t ≡ r = (eqb_iff t r).0 h in
      ((eqb_iff (s.aligned a).template r).1 (e ∙ y), (eqb_iff r t).1 (sym y))

  given_there : (p : List ℕ) (u k : ℕ) → Arrives es p u → (u ≡ entry → ⊥) → T (changes a t (directive file u)) → Held k (after (directive file u) (state_by file p)) → T (has (gives u) k)
  unfolding given_set
  given_there p u k path other h g =
      let c = concerned (directive file u) (state_by file p) h g.0 in
      let i = (given_exact formed a in_a u (mapping_after file p u a)).1 (record { before = p; path = path; remaps = c.0; is = refl }) in
      rw (ne_eqb u entry other, is_true (aligns_with t (directive file u)) c.1) ((set_exact all (given_to file a u) k).1 (mapping_after file p u a, i, g.1))

  held_found : (k u : ℕ) (us : List ℕ) (v : ℕ) → Arrives es (u ∷ us) v → Held k (state_by file (u ∷ us)) → Found v k
  held_found k = by_path formed (λ p x. Held k (state_by file p) → Found x k)
      (λ x e g. record { place = entry; way = last e; met = (initial_held k).1 (subst (Held k) (state_first formed) g) })
      next
    where
      next : (p : List ℕ) (u x : ℕ) → Arrives es p u → (u ≡ entry → ⊥) → Edge es u x → (Held k (state_by file p) → Found u k) → Held k (state_by file (p ++ u ∷ [])) → Found x k
      next p u x path other e before g =
          let now = subst (Held k) (state_next file p u) g in
          ⊎_elim
          (λ c. record { place = u; way = last e; met = given_there p u k path other c now })
          (λ c. let f = before ((stays k u (state_by file p) c).1 now) in record { place = f.place; way = extend f.way c e; met = f.met })
          (either (changes a t (directive file u)))

  -- ---- exactly

  made_small : (u k : ℕ) → Made u k → k < width
  made_small u k m =
      let n = number_of (mapping_after file m.before u a) all (after_listed formed a in_a m.before u m.path) in
      omega (arith, n.0, m.held.1, few)

  -- the set of v holds k exactly if some path brings the array to v aligned with the template, in version k
  pub held_exact : (v k : ℕ) → (v ≡ entry → ⊥) → T (has (get_or (held_sets file a t) v 0) k) ↔ HeldOn v k
  unfolding held_sets
  held_exact v k other =
      Iff.trans
      (solved es false gives (λ u. cond (changes a t (directive file u)) 0 every_version) (vertices file) formed.ends through (λ u. T (has (gives u) k)) k
      (λ u. Iff.rfl)
      (λ w m u. ap (λ (s : ℕ). has s k) (cond-not (changes a t (directive file u)) 0 every_version) ∙ has_full_if width k (made_small w k (made w k m)) (through u))
      v)
      (found_held v k, λ h. go h.before h.path h.held)
    where
      go : (before : List ℕ) → Arrives es before v → Held k (state_by file before) → Found v k
      go [] path g = absurd (other path)
      go (u ∷ us) path g = held_found k u us v path g
