-- A file that passed the checks is well formed: array records and edges within their limits, known actions, rows of one family, edges that
-- rise; and its call rows hold calls and 00 only, in versions that there are.
-- Assumes nothing.
use Rattle.std.specs.Prelude.{Ok, Option}
use mathlib.Core.Path.{◌≡◌, refl, sym, ap, ap₂, ◌∙◌}
use mathlib.Core.Bool.{Bool, true, false, not, ◌&&◌, true≢false, false≢true, or-true}
use mathlib.Core.List.{List}
use mathlib.Core.Logic.{⊎_elim}
use Prim.Native.Nat.{ℕ, ◌+◌, ◌-◌, ◌<◌}
use native.Mathlib.Nat.{eq-zero-or-pos, eq-or-lt_of_le}
use native.Mathlib.Numerals.{add-one}
use native.Mathlib.Omega.{arith}
use borrow.Author.Tests.{ltb-true, eqb-true, eq-eqb, not-true, not-false}
use Rattle.routine.specs.declared.action.Access.{Access}
use Rattle.routine.specs.declared.action.Action.{Action}
use Rattle.routine.specs.declared.action.Action.TheVariants.{Nothing, Reference, Remap, Unknown}
use Rattle.routine.specs.declared.action.Family.{Family}
use Rattle.routine.specs.Actions.{action_of, is_call, called_version, action, action_byte, is_known, is_known_byte, names_below, family_of, differ, is_entry_or_exit, action_check}
use Rattle.routine.specs.Arrays.{array_of, array_check}
use Rattle.routine.specs.Edges.{edge_of, before, rises, edge_check}
use Rattle.routine.specs.Layout.{arrays, vertices, edges}
use Rattle.routine.specs.Reader.{ArrayLimits, EdgeLimits, WellFormed, ChecksPassed}
use Rattle.refusal.proofs.Checks.{parts}
use Rattle.routine.proofs.Actions.{known_no_call, zero_if_nothing, reference_family, remap_family, call_family, differ-self}
use Rattle.words.proofs.Sums.{each_fails}

-- ---- an action byte that passed

record PassedAction (file : List ℕ) (a v : ℕ) : Type 0 where
  known : is_known_byte (action_byte file a v) ≡ true
  below : names_below (action_byte file a v) (array_of file a).versions ≡ true
  zero_there : is_entry_or_exit file v ≡ true → action file a v ≡ Nothing
  alike : (b : ℕ) → b < a → differ (family_of (action_byte file a v)) (family_of (action_byte file b v)) ≡ false

-- not both in the row of the entry or the exit and other than zero
placed : (row zero : Bool) → not (row && not zero) ≡ true → row ≡ true → zero ≡ true
placed row zero e q = not-false zero (rw q at (not-true (row && not zero) e))

zero_nothing : (file : List ℕ) (a v : ℕ) → action_byte file a v ≡ 0 → action file a v ≡ Nothing
unfolding action
zero_nothing file a v e = ap action_of e

passed_action : (file : List ℕ) (a v : ℕ) → action_check file a v ≡ Ok tt → PassedAction file a v
unfolding action_check
passed_action file a v e =
    record {
      known = search parts;
      below = search parts;
      zero_there = λ r. zero_nothing file a v (eqb-true _ _ (placed _ _ (search parts) r));
      alike = each_fails _ a (search parts);
    }

-- ---- the laws

module _ {file : List ℕ} (p : ChecksPassed file) where
  array_limits : {a : ℕ} → a < arrays file → ArrayLimits (array_of file a)
  unfolding array_check
  array_limits {a} in_a =
      let e = p.arrays_pass a in_a in
      search parts

  module _ {v a : ℕ} (in_v : v < vertices file) (in_a : a < arrays file) where
    passed_here : PassedAction file a v
    passed_here = passed_action file a v (p.actions_pass a v in_a in_v)

    -- 15: what is no call document 01 knows
    pub action_known : is_call (action_byte file a v) ≡ false → action file a v ≡ Unknown → ⊥
    unfolding action
    action_known none e = false≢true (rw (e, none) at passed_here.known)

    -- 17: of a remapping and of a call
    pub remap_below : {k : ℕ} → action file a v ≡ Remap k → k < (array_of file a).versions
    unfolding action
    remap_below {k} e = ltb-true k (array_of file a).versions (rw (known_no_call (action_byte file a v) (ap is_known e), e) at passed_here.below)

    pub call_below : is_call (action_byte file a v) ≡ true → called_version (action_byte file a v) < (array_of file a).versions
    call_below c = ltb-true (called_version (action_byte file a v)) (array_of file a).versions (rw c at passed_here.below)

  entry_nothing : {a : ℕ} → a < arrays file → action file a 0 ≡ Nothing
  entry_nothing in_a = (passed_here {v = 0} (omega (arith, p.laid.limits)) in_a).zero_there refl

  exit_nothing : {a : ℕ} → a < arrays file → action file a (vertices file - 1) ≡ Nothing
  exit_nothing in_a =
      let last = vertices file - 1 in
      (passed_here {v = last} (omega (arith, p.laid.limits)) in_a).zero_there (rw (eq-eqb last last refl, or-true))

  -- 19: no row has two families
  two_families : {v a b : ℕ} {f g : Option Family} → v < vertices file → a < arrays file → b < arrays file →
      family_of (action_byte file a v) ≡ f → family_of (action_byte file b v) ≡ g →
      differ f g ≡ true → differ g f ≡ true → ⊥
  two_families {v} {a} {b} {f} {g} in_v in_a in_b is_f is-g there back =
      ⊎_elim
      (λ (none : b - a ≡ 0). ⊎_elim
      (λ (same : b ≡ a). let e : f ≡ g = sym is_f ∙ ap (λ (c : ℕ). family_of (action_byte file c v)) (sym same) ∙ is-g in true≢false (sym there ∙ ap (differ f) (sym e) ∙ differ-self f))
      (λ less. true≢false (sym there ∙ ap₂ differ (sym is_f) (sym is-g) ∙ (passed_here in_v in_a).alike b less))
      (eq-or-lt_of_le {n = b} {m = a} (omega arith)))
      (λ (some : 0 < b - a). true≢false (sym back ∙ ap₂ differ (sym is-g) (sym is_f) ∙ (passed_here in_v in_b).alike a (omega arith)))
      (eq-zero-or-pos (b - a))

  -- a vertex has references or remappings, never both
  never_both : {v a b : ℕ} {r : Access} {k : ℕ} → v < vertices file → a < arrays file → b < arrays file →
      action file a v ≡ Reference r → action file b v ≡ Remap k → ⊥
  unfolding action
  never_both {v} {a} {b} in_v in_a in_b reference remap =
      two_families in_v in_a in_b (reference_family (action_byte file a v) reference) (remap_family (action_byte file b v) remap) refl refl

  -- a row with a call holds calls and 00 only
  pub beside_call : {v a b : ℕ} → v < vertices file → a < arrays file → b < arrays file →
      is_call (action_byte file b v) ≡ true → is_call (action_byte file a v) ≡ false → action_byte file a v ≡ 0
  unfolding action
  beside_call {v} {a} {b} in_v in_a in_b call none = go (action_of byte) refl
    where
      byte : ℕ
      byte = action_byte file a v

      go : (x : Action) → action_of byte ≡ x → byte ≡ 0
      go Nothing e = eqb-true byte 0 (zero_if_nothing byte e)
      go (Reference r) e =
          absurd (two_families in_v in_a in_b (reference_family byte e) (call_family (action_byte file b v) call) refl refl)
      go (Remap k) e =
          absurd (two_families in_v in_a in_b (remap_family byte e) (call_family (action_byte file b v) call) refl refl)
      go Unknown e = absurd (action_known in_v in_a none e)

  edge_limits : {i : ℕ} → i < edges file → EdgeLimits (edge_of file i) (vertices file)
  unfolding edge_check
  edge_limits {i} in_i =
      let e = p.edges_pass i in_i in
      search parts

  edges_rise : (i : ℕ) → i + 1 < edges file → before (edge_of file i) (edge_of file (i + 1)) ≡ true
  unfolding edge_check rises
  edges_rise i in_i =
      let e = p.edges_pass (i + 1) in_i in
      let r : rises file (i + 1) ≡ true = search parts in
      rw add-one (rw add-one at r)

  pub well_formed : WellFormed file
  well_formed = record {
    laid = p.laid;
    array_limits = array_limits;
    entry_nothing = entry_nothing;
    exit_nothing = exit_nothing;
    never_both = never_both;
    edge_limits = edge_limits;
    edges_rise = edges_rise;
  }
