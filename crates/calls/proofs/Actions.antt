-- Action bytes of what calls become.
-- Assumes nothing.
use mathlib.Core.Path.{◌≡◌, refl}
use mathlib.Core.Bool.{Bool, true, false, cond}
use mathlib.Core.List.{List}
use Prim.Native.Nat.{ℕ, ◌+◌, ◌<◌}
use native.Mathlib.Omega.{arith}
use lib.Dec.{ltb}
use Rattle.routine.proofs.Actions.{remap_action}
use Rattle.routine.specs.Actions.{action_of}
use Rattle.routine.specs.Layout.{arrays}
use Rattle.routine.specs.declared.action.Access.{Access}
use Rattle.routine.specs.declared.action.Access.TheVariants.{Read, Define, Modify}
use Rattle.routine.specs.declared.action.Action.TheVariants.{Nothing, Reference, Remap}
use Rattle.sets.specs.Sets.{width}
use Rattle.words.proofs.Sums.{each_fails}
use Rattle.calls.specs.Calls.{intent_byte, passes, is_call_row}

-- an intent is a reference
pub intent_refers : (b : ℕ) → (r : Access) × (action_of (intent_byte b) ≡ Reference r)
unfolding action_of
intent_refers b = go (ltb b 0x80) (ltb b 0xc0)
  where
    go : (p q : Bool) → (r : Access) × (action_of (cond p 0x10 (cond q 0x20 0x30)) ≡ Reference r)
    go true q = (Read, refl)
    go false true = (Define, refl)
    go false false = (Modify, refl)

-- ---- a byte that stands only where an array is passed, else 00

pub remap_if : (b : Bool) (k : ℕ) → (b ≡ true → k < width) → action_of (cond b (0x40 + k) 0x00) ≡ cond b (Remap k) Nothing
unfolding action_of
remap_if true k h = remap_action k (h refl)
remap_if false k h = refl

pub intent_if : (b : Bool) (c : ℕ) → action_of (cond b (intent_byte c) 0x00) ≡ cond b (action_of (intent_byte c)) Nothing
unfolding action_of
intent_if true c = refl
intent_if false c = refl

-- the first is no reference
pub no_reference : (b : Bool) (k : ℕ) (r : Access) → cond b (Remap k) Nothing ≡ Reference r → ⊥
no_reference true k r e = let z : ◌≡◌ {A = ℕ} 0 1 = cc in omega arith
no_reference false k r e = let z : ◌≡◌ {A = ℕ} 0 1 = cc in omega arith

-- the second no remapping
pub no_remap : (b : Bool) (c k : ℕ) → cond b (action_of (intent_byte c)) Nothing ≡ Remap k → ⊥
no_remap true c k e = let z : ◌≡◌ {A = ℕ} 0 1 = cc (intent_refers c).1 in omega arith
no_remap false c k e = let z : ◌≡◌ {A = ℕ} 0 1 = cc in omega arith

-- ---- a row that is no call row passes no array
pub no_call : (file : List ℕ) (a v : ℕ) → a < arrays file → is_call_row file v ≡ false → passes file a v ≡ false
unfolding is_call_row
no_call file a v h e = each_fails (λ b. passes file b v) (arrays file) e a h
