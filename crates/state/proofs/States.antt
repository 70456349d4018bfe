-- Laws of the run rules, as the functions over a state use them.
-- Assumes nothing.
use mathlib.Core.Path.{◌≡◌, sym, ap, ◌∙◌}
use mathlib.Core.Bool.{true, not, true≢false}
use mathlib.Core.Logic.{inl, inr}
use Prim.Native.Nat.{ℕ, ◌<◌}
use native.Mathlib.Omega.{arith}
use borrow.Author.Tests.{ne_eqb}
use lib.Dec.{eqb}
use Rattle.labels.specs.declared.Use.{Use}
use Rattle.words.proofs.Tests.{and_right}
use Rattle.sets.specs.Sets.{has, width}
use Rattle.state.specs.States.{State, Current, nothing, has_current}
use Rattle.state.specs.Moves.{moves, is_d, copies_stamp}

-- a current copy is a version
pub current_below : (s : State) → Current s → has_current s ≡ true → s.current < width
current_below s (inl h) e = h
current_below s (inr n) e = absurd (true≢false (sym e ∙ ap (λ (k : ℕ). not (eqb k nothing)) n))

-- a version that is current is a current copy
pub below_current : (s : State) → s.current < width → has_current s ≡ true
below_current s h = ap not (ne_eqb s.current nothing (λ e. omega arith))

-- a stamp is copied from a current copy
pub copies_current : (u : Use) (t : ℕ) (s : State) → copies_stamp u t s ≡ true → has_current s ≡ true
unfolding copies_stamp
copies_current u t s h = and_right (not (is_d u)) _ (and_right (not (has s.live t)) _ (and_right (moves u t s) _ h))
