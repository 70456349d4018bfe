-- A vertex has references or labels, never both: one action of its row tells.
-- Assumes nothing.
use mathlib.Core.Path.{◌≡◌, refl, sym, ap, ◌∙◌}
use mathlib.Core.Bool.{Bool, true, false, ◌&&◌, ◌||◌, and-true}
use mathlib.Core.List.{List}
use Prim.Native.Nat.{ℕ, ◌<◌}
use borrow.Author.Tests.{eqb-true}
use lib.Dec.{eqb}
use Rattle.labels.specs.Events.{event}
use Rattle.routine.specs.Actions.{action, is_reference, is_remap}
use Rattle.routine.specs.Arrays.{kind, is_out_or_inout}
use Rattle.routine.specs.Layout.{arrays, vertices, exit}
use Rattle.routine.specs.Reader.{WellFormed}
use Rattle.routine.specs.declared.action.Action.{Action}
use Rattle.routine.specs.declared.action.Action.TheVariants.{Nothing, Reference, Remap, Unknown}
use Rattle.labels.proofs.Rules.Events.{inner_event}
use Rattle.words.proofs.Tests.{at_cond, or_cases}
use Rattle.walk.specs.Walks.{OneSort, Labels}

module _ {file : List ℕ} (well : WellFormed file) (v : ℕ) where
  -- ---- its row

  module _ (in_v : v < vertices file) where
    apart : {a b : ℕ} → a < arrays file → b < arrays file → (x y : Action) → action file a v ≡ x → action file b v ≡ y → (is_reference x && is_remap y) ≡ false
    apart in_a in_b Nothing y e f = refl
    apart in_a in_b (Reference r) Nothing e f = refl
    apart in_a in_b (Reference r) (Reference s) e f = refl
    apart in_a in_b (Reference r) (Remap k) e f = absurd (well.never_both in_v in_a in_b e f)
    apart in_a in_b (Reference r) Unknown e f = refl
    apart in_a in_b (Remap k) y e f = refl
    apart in_a in_b Unknown y e f = refl

    pub after_reference : {a : ℕ} → a < arrays file → is_reference (action file a v) ≡ true → OneSort file v false
    after_reference {a} in_a is b in_b = ap (λ (t : Bool). t && is_remap (action file b v)) (sym is) ∙ apart in_a in_b (action file a v) (action file b v) refl refl

    pub after_remap : {a : ℕ} → a < arrays file → is_remap (action file a v) ≡ true → OneSort file v true
    after_remap {a} in_a is b in_b =
        sym (and-true (is_reference (action file b v))) ∙ ap (λ (t : Bool). is_reference (action file b v) && t) (sym is)
        ∙ apart in_b in_a (action file b v) (action file a v) refl refl

  -- ---- and its labels

  -- the entry's and the exit's rows are all 00
  pub at_terminal : (eqb v 0 || eqb v (exit file)) ≡ true → Labels file v true
  unfolding event
  at_terminal t b in_b =
      at_cond (λ (x : Action). is_reference x ≡ false) (eqb v 0 || (eqb v (exit file) && is_out_or_inout (kind file b))) (λ _. refl)
      (λ _. ap is_reference (or_cases (eqb v 0) (eqb v (exit file))
      (λ e. ap (λ (w : ℕ). action file b w) (eqb-true v 0 e) ∙ well.entry_nothing in_b)
      (λ e. ap (λ (w : ℕ). action file b w) (eqb-true v (exit file) e) ∙ well.exit_nothing in_b) t))

-- elsewhere the row tells
module _ (file : List ℕ) (v : ℕ) (first : eqb v 0 ≡ false) (last : eqb v (exit file) ≡ false) where
  as_read : (b : ℕ) → event file b v ≡ action file b v
  as_read b = inner_event file b v first last

  pub at_inner : (r : Bool) → OneSort file v r → Labels file v r
  at_inner true sort = λ b in_b. ap is_reference (as_read b) ∙ sort b in_b
  at_inner false sort = record { inner = last; as_read = as_read; no_label = λ b in_b. ap is_remap (as_read b) ∙ sort b in_b }
