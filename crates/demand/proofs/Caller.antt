-- The caller's copy of an in argument: no vertex writes it, so that it has the caller's stamp along the whole path, and at the exit it is
-- live and current.
-- Assumes nothing.
use mathlib.Core.Path.{◌≡◌, refl, sym, ap, ◌∙◌}
use mathlib.Core.Bool.{Bool, true, false, true≢false}
use Prim.Native.Nat.{ℕ, zero, suc, ◌+◌, ◌≤◌, ◌<◌, ◌^◌}
use native.Mathlib.Omega.{arith}
use borrow.Author.Tests.{eqb-true, eq-eqb}
use lib.Dec.{T, eqb}
use lib.ListN.{replicate}
use lib.Seq.{get_or-set_same, set-get_or}
use Rattle.labels.specs.Events.{is_write}
use Rattle.routine.specs.Arrays.{is_argument, is_in}
use Rattle.routine.specs.declared.action.Access.TheVariants.{Read, Define, Modify, Kill}
use Rattle.routine.specs.declared.action.Action.{Action}
use Rattle.routine.specs.declared.action.Action.TheVariants.{Nothing, Reference, Remap, Unknown}
use Rattle.sets.specs.Sets.{width}
use Rattle.state.specs.Cleaning.{callers}
use Rattle.state.specs.Exit.{left}
use Rattle.state.specs.Moves.{is_d, moved}
use Rattle.state.specs.References.{referenced}
use Rattle.state.specs.States.{State, stamp_of, one_copy}
use Rattle.state.specs.Vertex.{labelled, visited}
use Rattle.state.proofs.Exit.{at_left, callers_own, left-callers}
use Rattle.state.proofs.Labels.{cleaned_own, moved_stamp}
use Rattle.demand.specs.Machine.{Machine, machine_step}
use Rattle.demand.proofs.Along.{Follows, initial_below, matches_at}
use Rattle.demand.proofs.Invariant.{ArrayPlan, Sound}

-- the machine's stamp and that of the caller's copy are as the caller gave them
record Given (p : ArrayPlan) (s : State) (m : Machine) : Type 0 where
  machine : m.stamp ≡ 65535
  own : stamp_of s p.array.initial ≡ 65535

module _ {p : ArrayPlan} (sound : Sound p) {at : ℕ → ℕ} {n : ℕ} {run : ℕ → State} {machine : ℕ → Machine} (f : Follows p at n run machine)
    (is-in : is_in p.array.kind ≡ true) (unwritten : (i : ℕ) → i < n → T (is_write (p.event (at i))) → ⊥) (no-D : (i : ℕ) → i < n → is_d (p.letter (at i)) ≡ false) where
  visited_given : (i : ℕ) → i < n → (x : Action) → p.event (at i) ≡ x → Given p (run i) (machine i)
      → Given p (visited p.array x (p.letter (at i)) (p.keep (at i)) (i + 1) (run i)) (machine_step x (i + 1) (machine i))
  unfolding labelled referenced
  visited_given i h Nothing e g = g
  visited_given i h (Reference Read) e g = record { machine = g.machine; own = rw (set-get_or (run i).stamps (run i).current 0) g.own }
  visited_given i h (Reference Define) e g = absurd (unwritten i h (rw e tt))
  visited_given i h (Reference Modify) e g = absurd (unwritten i h (rw e tt))
  visited_given i h (Reference Kill) e g = absurd (unwritten i h (rw e tt))
  visited_given i h (Remap t) e g =
      let y = matches_at sound f i t h e in
      let u = p.letter (at i) in
      let k = p.array.initial in
      record {
        machine = g.machine;
        own =
            cleaned_own (callers p.array) (p.keep (at i)) (moved u t (run i)) k (callers_own p.array is-in)
            ∙ moved_stamp u t (run i) k (omega (arith, y.wide, sound.below e)) (no-D i h) y.agree y.sits (g.own ∙ sym g.machine)
            ∙ g.machine;
      }
  visited_given i h Unknown e g = g

  left_given : (b : Bool) (s : State) (m : Machine) → Given p s m → Given p (left p.array b s) m
  left_given b s m g =
      at_left p.array b s (λ (s' : State). Given p s' m)
      (λ _ _. record { machine = g.machine; own = get_or-set_same (replicate width 0) p.array.initial (stamp_of s p.array.initial) 0 (initial_below sound f) ∙ g.own })
      (λ _ e. absurd (true≢false (ap is_argument (sym (eqb-true p.array.kind 1 is-in)) ∙ e)))
      g

  given : (i : ℕ) → i ≤ n → Given p (run i) (machine i)
  given zero h = rw (f.run_start, f.machine_start_lem, is-in) (record { machine = refl; own = get_or-set_same (replicate width 0) p.array.initial 65535 0 (initial_below sound f) })
  given (suc i) h = rw (f.run_step i, f.machine_step_lem i) (left_given (eqb (at i) p.exit) _ _ (visited_given i h (p.event (at i)) refl (given i (omega arith))))

  -- at the exit the caller's copy alone is live, and current, with the caller's stamp; no copy is counted there
  pub callers_at : p.event p.exit ≡ Nothing → (i : ℕ) → i < n → at i ≡ p.exit
      → ((run (suc i)).current ≡ p.array.initial) × ((run (suc i)).live ≡ 2 ^ p.array.initial) × (stamp_of (run (suc i)) p.array.initial ≡ 65535)
      × ((run (suc i)).copies ≡ (run i).copies)
  unfolding labelled referenced
  callers_at quiet i h e =
      let after = visited p.array (p.event (at i)) (p.letter (at i)) (p.keep (at i)) (i + 1) (run i) in
      let is : run (suc i) ≡ one_copy p.array.initial (stamp_of after p.array.initial) after.copies =
      f.run_step i ∙ ap (λ (b : Bool). left p.array b after) (eq-eqb (at i) p.exit e) ∙ left-callers p.array is-in after in
      let still : after ≡ run i = ap (λ (x : Action). visited p.array x (p.letter (at i)) (p.keep (at i)) (i + 1) (run i)) (ap p.event e ∙ quiet) in
      (ap (λ (s : State). s.current) is, ap (λ (s : State). s.live) is, (given (suc i) h).own, ap (λ (s : State). s.copies) is ∙ ap (λ (s : State). s.copies) still)
