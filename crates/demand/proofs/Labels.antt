-- What a label does to a state beside the machine: stamps, current version and counts.
-- Assumes nothing.
use mathlib.Core.Path.{◌≡◌, refl, sym, ◌∙◌}
use mathlib.Core.Bool.{true, false, not, ◌&&◌, cond}
use Prim.Native.Nat.{ℕ, ◌+◌, ◌≤◌, ◌<◌}
use native.Mathlib.Omega.{arith}
use borrow.Author.Tests.{eqb-true, eqb-false, not-true}
use lib.Dec.{eqb}
use lib.ListN.{length}
use Rattle.labels.specs.declared.Use.{Use}
use Rattle.labels.specs.Uses.{is_n}
use Rattle.routine.specs.declared.action.Action.TheVariants.{Remap}
use Rattle.routine.specs.declared.array.ArrayRecord.{ArrayRecord}
use Rattle.words.proofs.Tests.{at_cond, and_right, or_cases}
use Rattle.sets.specs.Sets.{has, width}
use Rattle.state.specs.States.{State, has_current}
use Rattle.state.specs.Cleaning.{callers}
use Rattle.state.specs.Moves.{moves, copies_stamp, moved, is_d}
use Rattle.state.specs.Vertex.{labelled}
use Rattle.state.proofs.States.{copies_current}
use Rattle.demand.specs.Machine.{Machine, machine_step}
use Rattle.state.proofs.Labels.{Agree, Sits, cleaned-has, cleaned_agree, cleaned_sits, moved_agree, moved_sits, moved_to}

-- ---- the counts

-- no more copies than the machine counts, and fewer while a version other than the held one is current
pub record Cheap (s : State) (m : Machine) : Type 0 where
  pub few : s.copies ≤ m.count
  pub fewer : has_current s ≡ true → (s.current ≡ m.held → ⊥) → s.copies < m.count

moved_cheap : (u : Use) (t step : ℕ) (s : State) (m : Machine) → Cheap s m → Cheap (moved u t s) (machine_step (Remap t) step m)
unfolding moved
moved_cheap u t step s m c =
    let few = c.few in
    let away : eqb t m.held ≡ true → (s.current ≡ t → ⊥) → s.current ≡ m.held → ⊥ = λ e other f. other (f ∙ sym (eqb-true t m.held e)) in
    at_cond (λ (s' : State). Cheap s' (machine_step (Remap t) step m)) (moves u t s)
    (λ h. record {
      few =
          at_cond (λ (n : ℕ). s.copies + n ≤ m.count + cond (eqb t m.held) 0 1) (copies_stamp u t s)
          (λ g.
          let other = eqb-false s.current t (not-true _ (and_right (not (is_n u)) _ h)) in
          at_cond (λ (n : ℕ). s.copies + 1 ≤ m.count + n) (eqb t m.held) (λ e. omega (arith, c.fewer (copies_current u t s g) (away e other))) (λ e. omega arith))
          (λ g. omega arith);
      fewer = λ _ other. absurd (other refl);
    })
    (λ h. record {
      few = omega arith;
      fewer = λ g other. at_cond (λ (n : ℕ). s.copies < m.count + n) (eqb t m.held) (λ e. omega (arith, c.fewer g (away e other))) (λ e. omega arith);
    })

-- ---- the label

-- what a label asks: every live version has the machine's stamp
pub record Matches (s : State) (m : Machine) : Type 0 where
  pub wide : length s.stamps ≡ width
  pub agree : Agree s m.stamp
  pub sits : Sits s m.stamp
  pub cheap : Cheap s m

-- what a label of letter u, version t and kept set `keep` leaves
pub record Labelled (u : Use) (t keep : ℕ) (s : State) (m : Machine) : Type 0 where
  pub current : is_n u ≡ false → s.current ≡ t
  pub agree : is_d u ≡ false → Agree s m.stamp
  pub alone : is_n u ≡ false → ((k : ℕ) → has keep k ≡ true → k ≡ t) → (k : ℕ) → has s.live k ≡ true → k ≡ t
  pub sits : Sits s m.stamp
  pub cheap : Cheap s m

pub labelled_does : (r : ArrayRecord) (u : Use) (t keep step : ℕ) (s : State) (m : Machine) → t < width → Matches s m
    → Labelled u t keep (labelled r u t keep s) (machine_step (Remap t) step m)
unfolding labelled
labelled_does r u t keep step s m below y =
    let s' = moved u t s in
    let c = moved_cheap u t step s m y.cheap in
    record {
      current = moved_to u t s;
      agree = λ d. cleaned_agree (callers r) keep s' (moved_agree u t s (omega (arith, y.wide)) d y.agree y.sits);
      alone = λ n f k h.
          or_cases (has keep k) (has_current s' && eqb s'.current k) (f k)
          (λ g. sym (eqb-true s'.current k (and_right (has_current s') (eqb s'.current k) g)) ∙ moved_to u t s n)
          (and_right (has s'.live k) _ (sym (cleaned-has (callers r) keep s' k) ∙ h));
      sits = cleaned_sits (callers r) keep s' (moved_sits u t s below y.sits);
      cheap = record { few = c.few; fewer = c.fewer };
    }
