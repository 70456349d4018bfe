-- Use, one letter: the computed letter is the one that the rules by segments give, and what a letter rules out on a segment.
-- Assumes nothing.
use mathlib.Core.Path.{◌≡◌, refl, sym, subst}
use mathlib.Core.Bool.{Bool, true, false, not, ◌&&◌, cond, true≢false}
use mathlib.Core.List.{List}
use mathlib.Core.Logic.Iff
use mathlib.Core.Logic.{◌↔◌, ◌⊎◌, inl, inr, ⊎_elim}
use Prim.Native.Nat.{ℕ, ◌<◌}
use lib.Dec.{T, eqb}
use lib.ListN.{get_or}
use lib.Ieee.Fits.{and_l}
use Rattle.flow.specs.Paths.{Edge, Path, last, next, Finds}
use Rattle.flow.proofs.Paths.{weaken, split_first, path_ends}
use Rattle.routine.specs.Actions.{is_reference, is_remap}
use Rattle.routine.specs.Layout.{vertices, exit}
use Rattle.routine.specs.declared.action.Action.{Action}
use Rattle.sets.specs.Sets.{has}
use Rattle.labels.specs.declared.Use.{Use}
use Rattle.labels.specs.declared.Use.TheVariants.{N, D, R, W}
use Rattle.labels.specs.Events.{edge_bytes, event, is_read, is_define, is_write, needs_value}
use Rattle.labels.proofs.Rules.Proper.{Proper}
use Rattle.labels.specs.Uses.{Segment, UndefinedSegment, Meets, MeetsUndefined, Unused, Rule, IsUse, use_gives, use_passes, use_sets, letter_of, use_of}
use Rattle.labels.proofs.Rules.Events.{by_event}
use Rattle.labels.proofs.Rules.Tables.{solved}
use Rattle.words.proofs.Tests.{or_left, eqb_iff}

-- ---- the rules leave one letter at most

module _ (file : List ℕ) (a v : ℕ) where
  -- a read is a reference
  read_reference : Meets file a is_read v → Meets file a is_reference v
  read_reference m =
      record {
        place = m.place;
        way = m.way;
        met = by_event (λ x. T (is_read x) → T (is_reference x)) (λ h. h) (λ h. h) (λ h. tt) (λ h. tt) (λ h. tt) (λ k h. h) (λ h. h) (event file a m.place) m.met;
      }

  -- a read is met without a define before it, or a define is met
  read_first : Meets file a is_read v → MeetsUndefined file a needs_value v ⊎ Meets file a is_write v
  read_first m = ⊎_elim
      (λ t. inl (record { place = m.place; way = t; met = search or_left }))
      (λ t. inr (record { place = t.vertex; way = weaken (λ u h. search and_l) t.arrives; met = search or_left }))
      (split_first (λ u. is_define (event file a u)) m.way)

  -- two letters whose rules hold are the same
  pub only_one : (t u : Use) → Rule file a v t → Rule file a v u → t ≡ u
  only_one N N r s = refl
  only_one N D r s = absurd (s.0 r)
  only_one N R r s = absurd (r (read_reference s.0))
  only_one N W r s = absurd (s.0 r)
  only_one D N r s = absurd (r.0 s)
  only_one D D r s = refl
  only_one D R r s = absurd (⊎_elim r.1 s.1 (read_first s.0))
  only_one D W r s = absurd (s.1 r)
  only_one R N r s = absurd (s (read_reference r.0))
  only_one R D r s = absurd (⊎_elim s.1 r.1 (read_first r.0))
  only_one R R r s = refl
  only_one R W r s = absurd (s.2 r)
  only_one W N r s = absurd (r.0 s)
  only_one W D r s = absurd (r.1 s)
  only_one W R r s = absurd (r.2 s)
  only_one W W r s = refl

-- ---- use sets

-- a reference gives bit 0
pub use_reference : (x : Action) → has (use_gives x) 0 ≡ is_reference x
unfolding has
use_reference = by_event (λ x. has (use_gives x) 0 ≡ is_reference x) refl refl refl refl refl (λ k. refl) refl

-- a reference is a read or a write
read_or_write : (x : Action) → T (is_reference x) → T (is_read x) ⊎ T (is_write x)
read_or_write = by_event (λ x. T (is_reference x) → T (is_read x) ⊎ T (is_write x)) absurd inl inr inr inr (λ k. absurd) absurd

module _ (file : List ℕ) (a : ℕ) (proper : Proper file a) (v : ℕ) where
  -- the use set of v
  abbrev use_set : ℕ
  use_set = get_or (use_sets file a) v 0

  -- bit k, where events give it and pass it by these tests
  bit_exact : (k : ℕ) (gives passes : Action → Bool) → ((x : Action) → (has (use_gives x) k ≡ gives x) × (has (use_passes x) k ≡ passes x))
      → T (has use_set k) ↔ Finds (Path (edge_bytes file) (λ u. passes (event file a u))) (λ u. T (gives (event file a u))) v
  unfolding use_sets
  bit_exact k gives passes tests =
      solved (edge_bytes file) true _ _ (vertices file) proper.ends _ _ k (λ u. rw (tests (event file a u)).0 Iff.rfl) (λ _ _ u. (tests (event file a u)).1) v

  reference_exact : T (has use_set 0) ↔ Meets file a is_reference v
  unfolding has
  reference_exact =
      bit_exact 0 is_reference (λ x. not (is_remap x)) (λ x. (use_reference x, by_event (λ y. has (use_passes y) 0 ≡ not (is_remap y)) refl refl refl refl refl (λ k. refl) refl x))

  undefined_exact : T (has use_set 1) ↔ MeetsUndefined file a needs_value v
  unfolding has
  undefined_exact =
      bit_exact 1 needs_value (λ x. not (is_remap x) && not (is_define x)) (by_event _ (refl, refl) (refl, refl) (refl, refl) (refl, refl) (refl, refl) (λ k. (refl, refl)) (refl, refl))

  read_exact : T (has use_set 2) ↔ Meets file a is_read v
  unfolding has
  read_exact = bit_exact 2 is_read (λ x. not (is_remap x)) (by_event _ (refl, refl) (refl, refl) (refl, refl) (refl, refl) (refl, refl) (λ k. (refl, refl)) (refl, refl))

  write_exact : T (has use_set 3) ↔ Meets file a is_write v
  unfolding has
  write_exact = bit_exact 3 is_write (λ x. not (is_remap x)) (by_event _ (refl, refl) (refl, refl) (refl, refl) (refl, refl) (refl, refl) (λ k. (refl, refl)) (refl, refl))

  -- ---- the letter

  -- away from the exit, the rule of the letter that the use set tells holds
  letter_rule : Rule file a v (letter_of use_set)
  letter_rule = go (has use_set 0) (has use_set 1) (has use_set 2) (has use_set 3) reference_exact undefined_exact read_exact write_exact
    where
      go : (b₀ b₁ b₂ b₃ : Bool)
          → T b₀ ↔ Meets file a is_reference v → T b₁ ↔ MeetsUndefined file a needs_value v → T b₂ ↔ Meets file a is_read v → T b₃ ↔ Meets file a is_write v
          → Rule file a v (cond (not b₀) N (cond (not b₁) D (cond (b₂ && not b₃) R W)))
      go false b₁ b₂ b₃ f g h i = f.1
      go true false b₂ b₃ f g h i = (λ n. n (f.0 tt), g.1)
      go true true true false f g h i = (h.0 tt, i.1)
      go true true true true f g h i = (λ n. n (f.0 tt), λ d. d.1 (g.0 tt), λ r. r.1 (i.0 tt))
      go true true false b₃ f g h i = (λ n. n (f.0 tt), λ d. d.1 (g.0 tt), λ r. h.1 r.0)

  -- use, one letter: u is it by the rules exactly if it is the computed one
  pub use_exact : (u : Use) → IsUse file a v u ↔ (u ≡ use_of file a v)
  unfolding use_of
  use_exact u = go (eqb v (exit file)) (eqb_iff v (exit file))
    where
      go : (b : Bool) → T b ↔ (v ≡ exit file) → IsUse file a v u ↔ (u ≡ cond b W (letter_of use_set))
      go true f = (λ is. is.at_exit (f.0 tt), λ e. record { at_exit = λ _. e; elsewhere = λ n. absurd (n (f.0 tt)) })
      go false f = (
        λ is. only_one file a v u (letter_of use_set) (is.elsewhere f.1) letter_rule,
        λ e. record { at_exit = λ x. absurd (f.1 x); elsewhere = λ _. subst (Rule file a v) (sym e) letter_rule },
      )

  -- a remapping before the exit is dropped exactly if no path from it uses its array before that array's next one
  pub dropped_exact : (v ≡ exit file → ⊥) → (use_of file a v ≡ N) ↔ Unused file a v
  dropped_exact before = (
    λ e. ((use_exact N).1 (sym e)).elsewhere before,
    λ n. sym ((use_exact N).0 (record { at_exit = λ e. absurd (before e); elsewhere = λ _. n })),
  )

  -- at the exit: W for out and inout
  pub exit_letter : v ≡ exit file → use_of file a v ≡ W
  exit_letter = ((use_exact (use_of file a v)).1 refl).at_exit

  -- an array that no vertex defines or modifies has no letter D
  pub unwritten_d : ((w : ℕ) → w < vertices file → T (is_write (event file a w)) → ⊥) → use_of file a v ≡ D → ⊥
  unwritten_d none e =
      let is = (use_exact D).1 (sym e) in
      let d = is.elsewhere (λ x. at_exit (is.at_exit x)) in
      d.0 λ m. ⊎_elim
      (λ r. ⊎_elim d.1 never (read_first file a v (record { place = m.place; way = m.way; met = r })))
      (λ w. never (record { place = m.place; way = m.way; met = w }))
      (read_or_write (event file a m.place) m.met)
    where
      at_exit : D ≡ W → ⊥
      at_exit e = true≢false (cc)

      never : Meets file a is_write v → ⊥
      never m = none m.place (path_ends proper.ends m.way).1 m.met

  -- ---- what a letter rules out on a segment

  -- where a path leaves v, which then is not the exit, the rule of its letter holds
  rule : {through : ℕ → Bool} {w : ℕ} → Path (edge_bytes file) through v w → Rule file a v (use_of file a v)
  rule t = ((use_exact (use_of file a v)).1 refl).elsewhere (leaves t)
    where
      leaves : {through : ℕ → Bool} {u w : ℕ} → Path (edge_bytes file) through u w → u ≡ exit file → ⊥
      leaves (last {w} e) x = proper.none_leaves w (subst (λ (y : ℕ). Edge (edge_bytes file) y w) x e)
      leaves (next {u} e _ _) x = proper.none_leaves u (subst (λ (y : ℕ). Edge (edge_bytes file) y u) x e)

  -- N: no segment meets a reference
  pub n_segment : {w : ℕ} → use_of file a v ≡ N → Segment (edge_bytes file) (event file a) v w → T (is_reference (event file a w)) → ⊥
  n_segment {w} e t h = subst (Rule file a v) e (rule t) (record { place = w; way = t; met = h })

  -- D: no segment meets a read, a modify or the next label without a define before it
  pub d_segment : {w : ℕ} → use_of file a v ≡ D → UndefinedSegment (edge_bytes file) (event file a) v w → T (needs_value (event file a w)) → ⊥
  d_segment {w} e t h = (subst (Rule file a v) e (rule t)).1 (record { place = w; way = t; met = h })

  -- R: no segment meets a define or modify
  pub r_segment : {w : ℕ} → use_of file a v ≡ R → Segment (edge_bytes file) (event file a) v w → T (is_write (event file a w)) → ⊥
  r_segment {w} e t h = (subst (Rule file a v) e (rule t)).1 (record { place = w; way = t; met = h })
