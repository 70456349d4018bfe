-- Paths from the entry over any edges: which vertices they reach, and which vertex of a kind is the last on them.
-- Assumes nothing.
use mathlib.Core.Path.{◌≡◌, refl, sym, ap, subst, ◌∙◌}
use mathlib.Core.Bool.{Bool, true, false, not, cond}
use mathlib.Core.List.{List, [], ◌∷◌, ◌++◌}
use mathlib.Core.Logic.{◌↔◌, ◌⊎◌, inl, inr, ⊎_elim}
use mathlib.Core.Option.{Option, none, some}
use Prim.Native.Nat.{ℕ, ◌<◌}
use lib.Dec.{T, eqb, lit<}
use lib.Ieee.Bits.{is_true, is_false}
use Rattle.flow.specs.Paths.{Edge, Path, last, next, Joined, AllPass, Finds}
use Rattle.flow.specs.Solver.{Leads, Ends}
use Rattle.words.proofs.Tests.{either, or_iff, eqb_iff}
use Rattle.flow.proofs.Paths.{list_iff, extend, path_ends}
use Rattle.routine.specs.Layout.{entry}
use Rattle.sets.specs.Sets.{has}
use Rattle.sets.proofs.Laws.{has_full_if}
use Rattle.labels.specs.Reaching.{Arrives, or_last, last_version, reached_over, is_reached_over}
use Rattle.labels.proofs.Rules.Tables.{solved}

all_pass : (us : List ℕ) → AllPass (λ u. true) us
all_pass [] = tt
all_pass (u ∷ us) = (tt, all_pass us)

-- ---- which vertices are reached

module _ {es : List ℕ} {n : ℕ} (ends : Ends es n) where
  from_entry : (v : ℕ) → T (is_reached_over es n v) ↔ ((v ≡ entry) ⊎ Finds (Leads es false (λ u. true)) (λ u. u ≡ entry) v)
  unfolding is_reached_over reached_over has
  from_entry v = or_iff (eqb v entry) _ (eqb_iff v entry)
      (solved es false (λ u. cond (eqb u entry) 1 0) _ n ends (λ u. true) (λ u. u ≡ entry) 0 (λ u. rw (has_full_if 1 0 (lit< tt) (eqb u entry)) (eqb_iff u entry)) (λ w m u. refl) v)

  -- v is reached exactly if some path from the entry arrives at it
  pub reached_exact : (v : ℕ) → T (is_reached_over es n v) ↔ ((before : List ℕ) × Arrives es before v)
  reached_exact v = (
    λ h. ⊎_elim (λ e. ([], e)) (λ f. let l = (list_iff es (λ u. true) f.place v).0 f.way in (f.place ∷ l.inner, (f.met, l.joined))) ((from_entry v).0 h),
    λ p. (from_entry v).1 (go p.0 p.1),
  )
    where
      go : (before : List ℕ) → Arrives es before v → (v ≡ entry) ⊎ Finds (Leads es false (λ u. true)) (λ u. u ≡ entry) v
      go [] e = inl e
      go (u ∷ us) p = inr (record { place = u; way = (list_iff es (λ u. true) u v).1 (record { inner = us; joined = p.1; pass = all_pass us }); met = p.0 })

  -- and so is each vertex that an edge leads to from there
  pub reached_next : (v w : ℕ) → T (is_reached_over es n v) → Edge es v w → T (is_reached_over es n w)
  reached_next v w h e = (from_entry w).1 (inr (⊎_elim
      (λ x. record { place = v; way = last e; met = x })
      (λ f. record { place = f.place; way = extend f.way tt e; met = f.met })
      ((from_entry v).0 h)))

  -- it is one of the vertices, if there are any
  pub reached_below : 0 < n → (v : ℕ) → T (is_reached_over es n v) → v < n
  reached_below inhabited v h = ⊎_elim (λ e. subst (λ (x : ℕ). x < n) (sym e) inhabited) (λ f. (path_ends ends f.way).1) ((from_entry v).0 h)

-- ---- paths in a row

joined_append : (es : List ℕ) (u : ℕ) (us : List ℕ) (w : ℕ) (ws : List ℕ) (v : ℕ) → Joined es u us w → Joined es w ws v → Joined es u (us ++ w ∷ ws) v
joined_append es u [] w ws v e t = (e, t)
joined_append es u (x ∷ us) w ws v e t = (e.0, joined_append es x us w ws v e.1 t)

pub arrives_append : (es before : List ℕ) (w : ℕ) (ws : List ℕ) (v : ℕ) → Arrives es before w → Joined es w ws v → Arrives es (before ++ w ∷ ws) v
arrives_append es [] w ws v e t = (e, t)
arrives_append es (u ∷ us) w ws v p t = (p.0, joined_append es u us w ws v p.1 t)

-- ---- the last vertex of a kind

or_last_none : (o : Option ℕ) → or_last none o ≡ o
or_last_none none = refl
or_last_none (some k) = refl

last_assoc : (a b c : Option ℕ) → or_last a (or_last b c) ≡ or_last (or_last a b) c
last_assoc a b none = refl
last_assoc a b (some k) = refl

module _ (q : ℕ → Bool) (version : ℕ → ℕ) where
  -- one vertex on
  pub last_snoc : (us : List ℕ) (u : ℕ) → last_version q version (us ++ (u ∷ [])) ≡ or_last (last_version q version us) (cond (q u) (some (version u)) none)
  last_snoc [] u = sym (or_last_none _)
  last_snoc (x ∷ us) u = rw (last_snoc us u, last_assoc)

  -- none of the kind, and one with none after it
  pub last_none : (us : List ℕ) → AllPass (λ u. not (q u)) us → last_version q version us ≡ none
  last_none [] h = refl
  last_none (u ∷ us) h = rw (last_none us h.1, is_false (q u) h.0)

  last_some : (before : List ℕ) (w : ℕ) (us : List ℕ) → T (q w) → AllPass (λ u. not (q u)) us → last_version q version (before ++ w ∷ us) ≡ some (version w)
  last_some [] w us m h = rw (last_none us h, is_true (q w) m)
  last_some (u ∷ before) w us m h = rw (last_some before w us m h)

  module _ {es : List ℕ} {n : ℕ} (ends : Ends es n) where
    -- a reached vertex of the kind that has version k and leads to v past no other
    abbrev pub Carried : ℕ → ℕ → Type 0
    Carried v k = Finds (Leads es false (λ x. not (q x))) (λ w. (T (is_reached_over es n w) × T (q w)) × (version w ≡ k)) v

    -- the last vertex of the kind, where the vertices from u on lead to v: such a one, or none
    abbrev pub Last : ℕ → ℕ → Option ℕ → Type 0
    Last u v none = T (not (q u)) × Path es (λ x. not (q x)) u v
    Last u v (some k) = Carried v k

    here : (u v : ℕ) → T (is_reached_over es n u) → Path es (λ x. not (q x)) u v → Last u v (cond (q u) (some (version u)) none)
    here u v h t = ⊎_elim
        (λ m. rw (is_true (q u) m) (record { place = u; way = t; met = ((h, m), refl) }))
        (λ m. rw (is_false (q u) m) (m, t))
        (either (q u))

    pub last_of : (u : ℕ) (us : List ℕ) (v : ℕ) → T (is_reached_over es n u) → Joined es u us v → Last u v (last_version q version (u ∷ us))
    last_of u [] v h e = here u v h (last e)
    last_of u (x ∷ us) v h e = step (last_version q version (x ∷ us)) (last_of x us v (reached_next ends u x h e.0) e.1)
      where
        step : (o : Option ℕ) → Last x v o → Last u v (or_last (cond (q u) (some (version u)) none) o)
        step none l = here u v h (next e.0 l.0 l.1)
        step (some k) f = f

    -- such a one is the last of the kind on some path from the entry to v
    pub last_there : (v k : ℕ) → Carried v k → (before : List ℕ) × Arrives es before v × (last_version q version before ≡ some k)
    last_there v k f =
        let b = (reached_exact ends f.place).0 f.met.0.0 in
        let l = (list_iff es _ _ v).0 f.way in (
          b.0 ++ f.place ∷ l.inner,
          arrives_append es b.0 f.place l.inner v b.1 l.joined,
          last_some b.0 f.place l.inner f.met.0.1 l.pass ∙ ap some f.met.1,
        )
