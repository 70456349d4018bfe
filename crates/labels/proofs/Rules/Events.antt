-- Events: every version is below the width of a version set; tests of events, settled case by case.
-- Assumes nothing.
use mathlib.Core.Path.{◌≡◌, refl, ap, ap₂, ◌∙◌}
use mathlib.Core.Bool.{Bool, false, ◌&&◌, ◌||◌, cond}
use mathlib.Core.List.{List}
use Prim.Native.Nat.{ℕ, ◌+◌, ◌<◌}
use native.Mathlib.Omega.{arith}
use borrow.Author.Tests.{ltb-true}
use lib.Dec.{eqb, ltb, lit<}
use lib.ListN.{length, get_or}
use Rattle.words.specs.Tables.{table}
use Rattle.words.proofs.Tables.{table-length, table_at}
use Rattle.words.proofs.Tests.{at_cond}
use Rattle.routine.specs.declared.action.Access.TheVariants.{Read, Define, Modify, Kill}
use Rattle.routine.specs.declared.action.Action.{Action}
use Rattle.routine.specs.declared.action.Action.TheVariants.{Nothing, Reference, Remap, Unknown}
use Rattle.routine.specs.Actions.{action_of, action, action_byte}
use Rattle.labels.specs.Events.{event, version_of, version}
use Rattle.routine.specs.Arrays.{kind, initial, is_out_or_inout}
use Rattle.routine.specs.Layout.{arrays, entry, exit}
use Rattle.labels.proofs.Rules.Proper.{Proper}
use Rattle.sets.specs.Sets.{width}

-- its version is below the width
abbrev InWidth : Action → Type 0
InWidth x = version_of x < width

byte_fits : (b : ℕ) → InWidth (action_of b)
unfolding action_of
byte_fits b =
    at_cond InWidth (eqb b 0x00) (λ _. lit< tt) (λ _.
    at_cond InWidth (eqb b 0x10) (λ _. lit< tt) (λ _.
    at_cond InWidth (eqb b 0x20) (λ _. lit< tt) (λ _.
    at_cond InWidth (eqb b 0x30) (λ _. lit< tt) (λ _.
    at_cond InWidth (eqb b 0x80) (λ _. lit< tt) (λ _.
    at_cond InWidth (ltb b 0x40) (λ _. lit< tt) (λ _.
    at_cond InWidth (ltb b (0x40 + width)) (λ h. omega (arith, ltb-true b (0x40 + width) h)) (λ _. lit< tt)))))))

pub action_fits : (file : List ℕ) (a v : ℕ) → version_of (action file a v) < width
unfolding action
action_fits file a v = byte_fits (action_byte file a v)

-- an action read from the row of its vertex, which is lent
module _ (file : List ℕ) (v : ℕ) {row : List ℕ} (is : row ≡ table (λ b. action_byte file b v) (arrays file)) {a : ℕ} (in_a : a < arrays file) where
  pub in_row : a < length row
  in_row = omega (arith, in_a, ap length is, table-length (λ b. action_byte file b v) (arrays file))

  pub row_byte : get_or row a 0 ≡ action_byte file a v
  row_byte = ap (λ (r : List ℕ). get_or r a 0) is ∙ table_at (λ b. action_byte file b v) (arrays file) a in_a

  pub row_action : action_of (get_or row a 0) ≡ action file a v
  unfolding action
  row_action = ap action_of row_byte

-- every version is below the width
pub version_fits : (file : List ℕ) (a : ℕ) → Proper file a → (v : ℕ) → version file a v < width
unfolding version event action
version_fits file a proper v =
    at_cond InWidth (eqb v entry || (eqb v (exit file) && is_out_or_inout (kind file a))) (λ _. proper.initial_fits) (λ _. action_fits file a v)

-- entry labels every array as a remapping to its initial version
pub entry_remaps : (file : List ℕ) (a : ℕ) → event file a entry ≡ Remap (initial file a)
unfolding event
entry_remaps file a = refl

-- at any other vertex but the exit the action is the event
pub inner_event : (file : List ℕ) (a v : ℕ) → eqb v entry ≡ false → eqb v (exit file) ≡ false → event file a v ≡ action file a v
unfolding event
inner_event file a v first last =
    ap₂ (λ (p q : Bool). cond (p || (q && is_out_or_inout (kind file a))) (Remap (initial file a)) (action file a v)) first last

-- what holds of each kind of event holds of every event
pub by_event : (P : Action → Type 0) → P Nothing → P (Reference Read) → P (Reference Define) → P (Reference Modify) → P (Reference Kill)
    → ((k : ℕ) → P (Remap k)) → P Unknown → (x : Action) → P x
by_event P n r d m l k u Nothing = n
by_event P n r d m l k u (Reference Read) = r
by_event P n r d m l k u (Reference Define) = d
by_event P n r d m l k u (Reference Modify) = m
by_event P n r d m l k u (Reference Kill) = l
by_event P n r d m l k u (Remap j) = k j
by_event P n r d m l k u Unknown = u
