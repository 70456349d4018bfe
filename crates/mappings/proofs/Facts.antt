-- The first two kinds of computed facts are exact: the alignments and the spreads that paths from the entry bring.
-- Assumes nothing.
use mathlib.Core.Path.{◌≡◌, refl, sym, ap, ap₂, subst, ◌∙◌}
use mathlib.Core.Bool.{Bool, true, false, not, ◌||◌, cond}
use mathlib.Core.List.{List, [], ◌∷◌, ◌++◌}
use mathlib.Core.Logic.{◌↔◌, ⊎_elim}
use mathlib.Core.Option.{Option, none, some, none-ne-some}
use Prim.Native.Nat.{ℕ, ◌+◌, ◌*◌, ◌<◌}
use native.Mathlib.Omega.{arith}
use borrow.Author.Tests.{ne_eqb}
use lib.Dec.{T, eqb}
use lib.Ieee.Bits.{is_true, is_false}
use lib.ListN.{get_or}
use Rattle.flow.specs.Paths.{Edge}
use Rattle.labels.proofs.Rules.Arrivals.{last_snoc}
use Rattle.labels.specs.Reaching.{Arrives, or_last, last_version}
use Rattle.sets.specs.Sets.{width, has}
use Rattle.words.proofs.Tests.{either}
use Rattle.directives.specs.Directives.{directive}
use Rattle.directives.specs.Layout.{arrays, vertices, entry, edge_bytes}
use Rattle.directives.specs.declared.array.Alignment.{Alignment}
use Rattle.directives.specs.declared.spread.Mapping.{Mapping}
use Rattle.directives.specs.declared.vertex.Directive.{Directive}
use Rattle.directives.specs.declared.vertex.Directive.TheVariants.{Nothing, Realign, Redistribute}
use Rattle.mappings.specs.Along.{State, initial_state, after, state_by}
use Rattle.mappings.specs.Computed.{last_sets, realigns, alignment_of, code, align_sets, redistributes, spread_sets, spread_by, spread_of}
use Rattle.mappings.specs.Tables.{spread_column}
use Rattle.mappings.specs.Theorem.{Right, Formed}
use Rattle.mappings.proofs.Along.{arrives_below, state_first, state_next, by_path}
use Rattle.mappings.proofs.Arrivals.{last_exact, last_below, column_exact}

some_same : {j k : ℕ} → ◌≡◌ {A = Option ℕ} (some j) (some k) → j ≡ k
some_same e = cc

-- tests of which each follows from the other
same_test : (a b : Bool) → T a ↔ T b → a ≡ b
same_test true true i = refl
same_test true false i = absurd (i.0 tt)
same_test false true i = absurd (i.1 tt)
same_test false false i = refl

-- ---- what the last vertex of a kind tells of the state

-- the entry and the directives that pass a test, numbered below w; P k holds of the state after a vertex with number k, up to the next of them
module _ {file : List ℕ} (formed : Formed file) (w : ℕ) (test : Directive → Bool) (number : ℕ → ℕ) (P : ℕ → State → Type 0)
    (small : (u : ℕ) → u < vertices file → number u < w)
    (gives : (u : ℕ) → u < vertices file → T (test (directive file u)) → (s : State) → P (number u) (after (directive file u) s))
    (keeps : (u : ℕ) → T (not (test (directive file u))) → (k : ℕ) (s : State) → P k s → P k (after (directive file u) s))
    (initially : P (number entry) (initial_state file)) where
  abbrev es : List ℕ
  es = edge_bytes file

  abbrev is_one : ℕ → Bool
  is_one u = eqb u entry || test (directive file u)

  abbrev sets : List ℕ
  sets = last_sets es (vertices file) w is_one number

  abbrev Told : List ℕ → Type 0
  Told before = (k : ℕ) × (last_version is_one number before ≡ some k) × P k (state_by file before)

  told : (u : ℕ) (us : List ℕ) (v : ℕ) → Arrives es (u ∷ us) v → Told (u ∷ us)
  told = by_path formed (λ p x. Told p) (λ x e. (number entry, refl, subst (P (number entry)) (sym (state_first formed)) initially)) next
    where
      next : (p : List ℕ) (u x : ℕ) → Arrives es p u → (u ≡ entry → ⊥) → Edge es u x → Told p → Told (p ++ u ∷ [])
      next p u x path other e h =
          let is : is_one u ≡ test (directive file u) = ap (λ (b : Bool). b || test (directive file u)) (ne_eqb u entry other) in
          let last : Bool → Option ℕ = λ b. or_last (last_version is_one number p) (cond b (some (number u)) none) in
          ⊎_elim
          (λ t. (
            number u,
            last_snoc is_one number p u ∙ ap last (is ∙ is_true _ t),
            subst (P (number u)) (sym (state_next file p u)) (gives u (arrives_below formed p u path) t (state_by file p)),
          ))
          (λ t. (
            h.0,
            last_snoc is_one number p u ∙ ap last (is ∙ is_false _ t) ∙ h.1,
            subst (P h.0) (sym (state_next file p u)) (keeps u t h.0 (state_by file p) h.2),
          ))
          (either (test (directive file u)))

  -- what a set holds is told by some path, and what a path tells is held
  pub held_told : (v k : ℕ) → T (has (get_or sets v 0) k) → (before : List ℕ) × Arrives es before v × P k (state_by file before)
  held_told v k h =
      let l = (last_exact formed.ends formed.some_vertex w is_one number (λ u l _. small u l) v k).0 h in
      (l.before, l.path, go l.before l.path l.last)
    where
      go : (before : List ℕ) → Arrives es before v → last_version is_one number before ≡ some k → P k (state_by file before)
      go [] path e = absurd (none-ne-some k e)
      go (u ∷ us) path e =
          let t = told u us v path in
          subst (λ (j : ℕ). P j (state_by file (u ∷ us))) (some_same (sym t.1 ∙ e)) t.2

  pub told_held : (v : ℕ) → (v ≡ entry → ⊥) → (before : List ℕ) → Arrives es before v → (k : ℕ) × T (has (get_or sets v 0) k) × P k (state_by file before)
  told_held v other [] path = absurd (other path)
  told_held v other (u ∷ us) path =
      let t = told u us v path in (
        t.0,
        (last_exact formed.ends formed.some_vertex w is_one number (λ u l _. small u l) v t.0).1 (record { before = u ∷ us; path = path; last = t.1 }),
        t.2,
      )

-- ---- 1: alignments

-- some path from the entry brings array a to v with this alignment
pub record BringsAligned (file : List ℕ) (a v : ℕ) (x : Alignment) : Type 0 where
  pub before : List ℕ
  pub path : Arrives (edge_bytes file) before v
  pub is : (state_by file before).aligned a ≡ x

abbrev of_two : ℕ → ℕ → Alignment
of_two t e = record { template = t; exchanged = e }

same_code : (x y : Alignment) → x.exchanged < 2 → y.exchanged < 2 → code x ≡ code y → x ≡ y
same_code x y h g e =
    let t : x.template ≡ y.template = omega arith in
    let f : x.exchanged ≡ y.exchanged = omega arith in
    ap₂ of_two t f

module _ {file : List ℕ} (formed : Formed file) (a : ℕ) (in_a : a < arrays file) where
  abbrev start : Alignment
  start = (initial_state file).aligned a

  abbrev number : ℕ → ℕ
  number u = code (alignment_of start (directive file u))

  -- the array's alignment has this number, and is right
  abbrev Is : ℕ → State → Type 0
  Is k s = (code (s.aligned a) ≡ k) × Right file (s.aligned a)

  -- an alignment that a vertex gives is right
  pub right_of : (u : ℕ) → u < vertices file → Right file (alignment_of start (directive file u))
  right_of u h = go (directive file u) refl
    where
      go : (d : Directive) → directive file u ≡ d → Right file (alignment_of start d)
      go Nothing e = formed.aligned a in_a
      go (Realign b x) e = formed.realigned u b x h e
      go (Redistribute t m) e = formed.aligned a in_a

  numbers_fit : (u : ℕ) → u < vertices file → number u < 16
  numbers_fit u h = omega (arith, (right_of u h).0, (right_of u h).1, formed.few_templates)

  -- a realign of the array gives it the new alignment, any other directive leaves the old one
  new_alignment : (d : Directive) (s : State) → T (realigns a d) → (after d s).aligned a ≡ alignment_of start d
  new_alignment Nothing s t = absurd t
  new_alignment (Realign b x) s t = ap (λ (c : Bool). cond c x (s.aligned a)) (is_true (eqb a b) t)
  new_alignment (Redistribute r m) s t = absurd t

  pub same_alignment : (d : Directive) (s : State) → T (not (realigns a d)) → (after d s).aligned a ≡ s.aligned a
  same_alignment Nothing s t = refl
  same_alignment (Realign b x) s t = ap (λ (c : Bool). cond c x (s.aligned a)) (is_false (eqb a b) t)
  same_alignment (Redistribute r m) s t = refl

  gives_it : (u : ℕ) → u < vertices file → T (realigns a (directive file u)) → (s : State) → Is (number u) (after (directive file u) s)
  gives_it u l t s =
      let e = new_alignment (directive file u) s t in
      (ap code e, subst (Right file) (sym e) (right_of u l))

  keeps_it : (u : ℕ) → T (not (realigns a (directive file u))) → (k : ℕ) (s : State) → Is k s → Is k (after (directive file u) s)
  keeps_it u t k s h =
      let e = same_alignment (directive file u) s t in
      (ap code e ∙ h.0, subst (Right file) (sym e) h.1)

  begins : Is (number entry) (initial_state file)
  begins = (ap (λ (d : Directive). code (alignment_of start d)) (sym formed.entry_silent), formed.aligned a in_a)

  module _ (v : ℕ) (other : v ≡ entry → ⊥) where
    -- each alignment that a path brings is right
    pub brings_right : (x : Alignment) → BringsAligned file a v x → Right file x
    brings_right x b =
        subst (Right file) b.is (told_held formed 16 (realigns a) number Is numbers_fit gives_it keeps_it begins v other b.before b.path).2.1

    -- the set of v holds 2 t + e exactly if some path brings the array aligned with template t, exchanged e
    pub alignments_exact : (x : Alignment) → x.exchanged < 2 → T (has (get_or (align_sets file a) v 0) (code x)) ↔ BringsAligned file a v x
    unfolding align_sets
    alignments_exact x small = (
      λ h. let b = held_told formed 16 (realigns a) number Is numbers_fit gives_it keeps_it begins v (code x) h in
          record { before = b.0; path = b.1; is = same_code ((state_by file b.0).aligned a) x b.2.1.1 small b.2.0 },
      λ b. let t = told_held formed 16 (realigns a) number Is numbers_fit gives_it keeps_it begins v other b.before b.path in
          subst (λ (k : ℕ). T (has (get_or (align_sets file a) v 0) k)) (sym t.2.0 ∙ ap code b.is) t.1,
    )

-- ---- 2: spreads

-- some path from the entry brings template t to v with this spread
pub record BringsSpread (file : List ℕ) (t v : ℕ) (m : Mapping) : Type 0 where
  pub before : List ℕ
  pub path : Arrives (edge_bytes file) before v
  pub is : (state_by file before).spread t ≡ m

-- a vertex that is in the set of v, with the spread that it gave
pub record Giver (file : List ℕ) (t v : ℕ) (m : Mapping) : Type 0 where
  pub vertex : ℕ
  pub held : T (has (get_or (spread_sets file t) v 0) vertex)
  pub gave : spread_by file t vertex ≡ m

module _ {file : List ℕ} (formed : Formed file) (t : ℕ) where
  -- the template's spread is that which vertex k gave it
  abbrev Gave : ℕ → State → Type 0
  Gave k s = s.spread t ≡ spread_by file t k

  -- a redistribute of the template gives it the new spread, any other directive leaves the old one
  new_spread : (d : Directive) (s : State) → T (redistributes t d) → (after d s).spread t ≡ spread_of ((initial_state file).spread t) d
  new_spread Nothing s h = absurd h
  new_spread (Realign b x) s h = absurd h
  new_spread (Redistribute r m) s h = ap (λ (c : Bool). cond c m (s.spread t)) (is_true (eqb t r) h)

  same_spread : (d : Directive) (s : State) → T (not (redistributes t d)) → (after d s).spread t ≡ s.spread t
  same_spread Nothing s h = refl
  same_spread (Realign b x) s h = refl
  same_spread (Redistribute r m) s h = ap (λ (c : Bool). cond c m (s.spread t)) (is_false (eqb t r) h)

  gives_spread : (u : ℕ) → u < vertices file → T (redistributes t (directive file u)) → (s : State) → Gave u (after (directive file u) s)
  gives_spread u l h s = new_spread (directive file u) s h

  keeps_spread : (u : ℕ) → T (not (redistributes t (directive file u))) → (k : ℕ) (s : State) → Gave k s → Gave k (after (directive file u) s)
  keeps_spread u h k s g = same_spread (directive file u) s h ∙ g

  begins_spread : Gave entry (initial_state file)
  begins_spread = ap (spread_of ((initial_state file).spread t)) (sym formed.entry_silent)

  -- a vertex of the set gave the spread that some path brings, and each such spread was given by one
  pub spreads_exact : (v : ℕ) (m : Mapping) → (v ≡ entry → ⊥) → Giver file t v m ↔ BringsSpread file t v m
  unfolding spread_sets
  spreads_exact v m other = (
    λ g. let b = held_told formed (vertices file) (redistributes t) (λ u. u) Gave (λ u l. l) gives_spread keeps_spread begins_spread v g.vertex g.held in
        record { before = b.0; path = b.1; is = b.2 ∙ g.gave },
    λ b. let h = told_held formed (vertices file) (redistributes t) (λ u. u) Gave (λ u l. l) gives_spread keeps_spread begins_spread v other b.before b.path in
        record { vertex = h.0; held = h.1; gave = sym h.2 ∙ b.is },
  )

  -- the vertices in the sets are vertices of the file
  pub spread_below : (v k : ℕ) → T (has (get_or (spread_sets file t) v 0) k) → k < vertices file
  unfolding spread_sets
  spread_below v k h =
      last_below formed.ends formed.some_vertex (vertices file) (λ u. eqb u entry || redistributes t (directive file u)) (λ u. u) (λ u l _. l) v k h

  -- columns hold the same
  pub spread_column_lem : (v c b : ℕ) → b < width → has (get_or (spread_column file t c) v 0) b ≡ has (get_or (spread_sets file t) v 0) (width * c + b)
  unfolding spread_sets spread_column
  spread_column_lem v c b l =
      same_test _ _
      (column_exact formed.ends formed.some_vertex (vertices file) (λ u. eqb u entry || redistributes t (directive file u)) (λ u. u) (λ u l _. l) c b v l)
