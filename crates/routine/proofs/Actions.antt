-- What a byte's action says of its other tests: 40+k remaps, a call is no action, and only the byte 0 does nothing.
-- Assumes nothing.
use Rattle.std.specs.Prelude.{Option, Some, None}
use mathlib.Core.Path.{◌≡◌, refl, sym, ap, ◌∙◌}
use mathlib.Core.Bool.{Bool, true, false, cond, true≢false}
use Prim.Native.Nat.{ℕ, ◌+◌, ◌-◌, ◌≤◌, ◌<◌}
use native.Mathlib.Omega.{arith}
use borrow.Author.Tests.{leb-true, lt-ltb, le-ltb, ne_eqb}
use lib.Dec.{leb, eqb}
use Rattle.routine.specs.declared.action.Access.{Access}
use Rattle.routine.specs.declared.action.Action.{Action}
use Rattle.routine.specs.declared.action.Action.TheVariants.{Nothing, Reference, Remap, Unknown}
use Rattle.routine.specs.Actions.{action_of, is_call, is_known, family_of, alike, differ}
use Rattle.routine.specs.declared.action.Family.{Family}
use Rattle.routine.specs.declared.action.Family.TheVariants as F
use Rattle.routine.specs.Layout.{within}
use Rattle.sets.specs.Sets.{width}
use Rattle.words.proofs.Tests.{and_left, and_right, or_cases, by_test}

-- ---- remappings

-- 40+k remaps to version k
pub remap_action : (k : ℕ) → k < width → action_of (0x40 + k) ≡ Remap k
unfolding action_of
remap_action k h =
    let e : 0x40 + k - 0x40 ≡ k = omega arith in
    rw (
      ne_eqb (0x40 + k) 0x00 (λ f. omega arith),
      ne_eqb (0x40 + k) 0x10 (λ f. omega arith),
      ne_eqb (0x40 + k) 0x20 (λ f. omega arith),
      ne_eqb (0x40 + k) 0x30 (λ f. omega arith),
      ne_eqb (0x40 + k) 0x80 (λ f. omega arith),
      le-ltb (0x40 + k) 0x40 (omega arith),
      lt-ltb (0x40 + k) (0x40 + width) (omega arith),
    ) (ap Remap e)

-- ---- calls

-- to `action_of` a call is unknown
pub call_unknown : (b : ℕ) → is_call b ≡ true → action_of b ≡ Unknown
unfolding action_of
call_unknown b h = or_cases (within 0x60 0x7f b) (within 0xa0 0xdf b)
    (λ e. high (omega (arith, leb-true 0x60 b (and_left (leb 0x60 b) (leb b 0x7f) e))) (λ f. omega (arith, leb-true b 0x7f (and_right (leb 0x60 b) (leb b 0x7f) e))))
    (λ e. high (omega (arith, leb-true 0xa0 b (and_left (leb 0xa0 b) (leb b 0xdf) e))) (λ f. omega (arith, leb-true 0xa0 b (and_left (leb 0xa0 b) (leb b 0xdf) e)))) h
  where
    high : 0x60 ≤ b → (b ≡ 0x80 → ⊥) → action_of b ≡ Unknown
    high l no-kill = rw (
      ne_eqb b 0x00 (λ f. omega arith),
      ne_eqb b 0x10 (λ f. omega arith),
      ne_eqb b 0x20 (λ f. omega arith),
      ne_eqb b 0x30 (λ f. omega arith),
      ne_eqb b 0x80 no-kill,
      le-ltb b 0x40 (omega arith),
      le-ltb b (0x40 + width) (omega arith),
    )

-- what it knows is no call
pub known_no_call : (b : ℕ) → is_known (action_of b) ≡ true → is_call b ≡ false
known_no_call b k = by_test (is_call b) (λ c. absurd (true≢false (sym k ∙ ap is_known (call_unknown b c)))) (λ e. e)

-- ---- only the byte 0 is nothing

abbrev is_nothing : Action → Bool
is_nothing Nothing = true
is_nothing (Reference r) = false
is_nothing (Remap k) = false
is_nothing Unknown = false

-- neither branch is
neither_branch : (t : Bool) (x y : Action) → is_nothing x ≡ false → is_nothing y ≡ false → is_nothing (cond t x y) ≡ false
neither_branch true x y e f = e
neither_branch false x y e f = f

-- the first branch only is
first_branch : (t : Bool) (x : Action) → is_nothing x ≡ false → is_nothing (cond t Nothing x) ≡ t
first_branch true x e = refl
first_branch false x e = e

nothing_zero : (b : ℕ) → is_nothing (action_of b) ≡ eqb b 0
unfolding action_of
nothing_zero b = search (first_branch, neither_branch) depth 9

module _ (b : ℕ) where
  pub zero_if_nothing : action_of b ≡ Nothing → eqb b 0 ≡ true
  zero_if_nothing e = sym (nothing_zero b) ∙ ap is_nothing e

  pub other_than_zero : {x : Action} → action_of b ≡ x → is_nothing x ≡ false → eqb b 0 ≡ false
  other_than_zero e n = sym (nothing_zero b) ∙ ap is_nothing e ∙ n

  -- ---- families

  pub nothing_family : action_of b ≡ Nothing → family_of b ≡ None
  nothing_family e = rw (e, known_no_call b (ap is_known e))

  pub reference_family : {r : Access} → action_of b ≡ Reference r → family_of b ≡ Some F.Reference
  reference_family e = rw e

  pub remap_family : {k : ℕ} → action_of b ≡ Remap k → family_of b ≡ Some F.Remapping
  remap_family e = rw e

  pub call_family : is_call b ≡ true → family_of b ≡ Some F.Call
  call_family c = rw (call_unknown b c, c)

-- nothing differs from none
pub differ-none : (f : Option Family) → differ f None ≡ false
differ-none None = refl
differ-none (Some f) = refl

alike-self : (f : Family) → alike f f ≡ true
alike-self F.Reference = refl
alike-self F.Remapping = refl
alike-self F.Call = refl

-- nor from itself
pub differ-self : (f : Option Family) → differ f f ≡ false
differ-self None = refl
differ-self (Some f) = rw (alike-self f) refl

pub alike-is : (f g : Family) → alike f g ≡ true → f ≡ g
alike-is F.Reference F.Reference e = refl
alike-is F.Reference F.Remapping e = absurd (true≢false (sym e))
alike-is F.Reference F.Call e = absurd (true≢false (sym e))
alike-is F.Remapping F.Reference e = absurd (true≢false (sym e))
alike-is F.Remapping F.Remapping e = refl
alike-is F.Remapping F.Call e = absurd (true≢false (sym e))
alike-is F.Call F.Reference e = absurd (true≢false (sym e))
alike-is F.Call F.Remapping e = absurd (true≢false (sym e))
alike-is F.Call F.Call e = refl
