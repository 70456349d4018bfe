-- An action byte's faults are one test: the earlier bytes of its row, where none is at fault, count only by their family.
-- Assumes nothing.
use Rattle.std.specs.Prelude.{Option, Some, None}
use mathlib.Core.Path.{◌≡◌, refl, sym, ap, ◌∙◌}
use mathlib.Core.Bool.{Bool, true, false, not, ◌&&◌, ◌||◌, and_comm, or-false, or_self}
use mathlib.Core.List.{List}
use Prim.Native.Nat.{ℕ, ◌+◌}
use borrow.Author.Tests.{not-false}
use lib.Dec.{eqb, ltb}
use Rattle.words.specs.Sums.{any_below}
use Rattle.words.proofs.Sums.{any_none, any_next}
use Rattle.words.proofs.Tests.{by_test, neither}
use Rattle.routine.specs.declared.action.Access.{Access}
use Rattle.routine.specs.declared.action.Action.{Action}
use Rattle.routine.specs.declared.action.Action.TheVariants.{Nothing, Reference, Remap, Unknown}
use Rattle.routine.specs.declared.action.Family.{Family}
use Rattle.routine.specs.declared.action.Family.TheVariants as F
use Rattle.routine.specs.Actions.{action_of, is_call, called_version, action_byte, is_known, is_entry_or_exit, family_of, alike, differ, is_at_entry_or_exit, action_check}
use Rattle.routine.specs.Arrays.{array_of}
use Rattle.routine.specs.Faults.{is_faulty, reason_at}
use Rattle.refusal.specs.Checks.{holds}
use Rattle.refusal.specs.declared.Refusal.TheVariants.{UnknownAction}
use Rattle.routine.specs.Layout.{action_at}
use Rattle.routine.specs.Rows.{is_wrong, known_reason, reason_of, family_after}
use Rattle.refusal.proofs.Checks.{holds_or}
use Rattle.routine.proofs.Actions.{differ-none, alike-is, known_no_call, zero_if_nothing, other_than_zero, nothing_family, reference_family, remap_family, call_family}

-- ---- the test and the reason, by the byte's action

module _ (b versions : ℕ) (terminal : Bool) where
  module _ (family : Option Family) where
    pub nothing_wrong : action_of b ≡ Nothing → is_wrong b versions terminal family ≡ false
    unfolding is_wrong
    nothing_wrong e = rw (e, known_no_call b (ap is_known e), zero_if_nothing b e)

    pub reference_wrong : {r : Access} → action_of b ≡ Reference r → is_wrong b versions terminal family ≡ (terminal || differ (Some F.Reference) family)
    unfolding is_wrong
    reference_wrong e = rw (e, known_no_call b (ap is_known e), other_than_zero b e refl)

    pub remap_wrong : {k : ℕ} → action_of b ≡ Remap k → is_wrong b versions terminal family ≡ (not (ltb k versions) || (terminal || differ (Some F.Remapping) family))
    unfolding is_wrong
    remap_wrong e = rw (e, known_no_call b (ap is_known e), other_than_zero b e refl)

    pub unknown_wrong : action_of b ≡ Unknown →
        is_wrong b versions terminal family ≡ (not (is_call b) || (not (ltb (called_version b) versions) || (terminal || differ (Some F.Call) family)))
    unfolding is_wrong
    unknown_wrong e =
        by_test (is_call b)
        (λ c. rw (e, c, other_than_zero b e refl))
        (λ c. rw (e, c))

  module _ (byte : ℕ) where
    pub nothing_reason : action_of b ≡ Nothing → reason_of b versions terminal byte ≡ known_reason false false byte
    unfolding reason_of
    nothing_reason e = rw (e, known_no_call b (ap is_known e), zero_if_nothing b e)

    pub reference_reason : {r : Access} → action_of b ≡ Reference r → reason_of b versions terminal byte ≡ known_reason false terminal byte
    unfolding reason_of
    reference_reason e = rw (e, known_no_call b (ap is_known e), other_than_zero b e refl)

    pub remap_reason : {k : ℕ} → action_of b ≡ Remap k → reason_of b versions terminal byte ≡ known_reason (not (ltb k versions)) terminal byte
    unfolding reason_of
    remap_reason e = rw (e, known_no_call b (ap is_known e), other_than_zero b e refl)

    module _ (e : action_of b ≡ Unknown) where
      pub call_reason : is_call b ≡ true → reason_of b versions terminal byte ≡ known_reason (not (ltb (called_version b) versions)) terminal byte
      unfolding reason_of
      call_reason c = rw (e, c, other_than_zero b e refl)

      pub unknown_reason : is_call b ≡ false → reason_of b versions terminal byte ≡ UnknownAction byte
      unfolding reason_of
      unknown_reason c = rw (e, c)

-- ---- the family of a row so far

-- the first n bytes of vertex v count as one of this family
abbrev pub RowFamily : List ℕ → ℕ → ℕ → Option Family → Type 0
RowFamily file v n family = (f : Option Family) → any_below (λ a. differ f (family_of (action_byte file a v))) n ≡ differ f family

-- one more of the same family, or the first of it
same_family : (f family : Option Family) (own : Family) → differ (Some own) family ≡ false → (differ f family || differ f (Some own)) ≡ differ f (Some own)
same_family f None own same = rw (differ-none f)
same_family f (Some g) own same = rw (alike-is g own (not-false (alike g own) same)) (or_self (differ f (Some own)))

module _ (b versions : ℕ) (terminal : Bool) (family : Option Family) (right : is_wrong b versions terminal family ≡ false) where
  joined : (f : Option Family) → (differ f family || differ f (family_of b)) ≡ differ f (family_after (action_of b) family)
  joined f = go (action_of b) refl
    where
      go : (x : Action) → action_of b ≡ x → (differ f family || differ f (family_of b)) ≡ differ f (family_after x family)
      go Nothing e = rw (nothing_family b e, differ-none f) (or-false (differ f family))
      go (Reference r) e =
          let p = neither terminal (differ (Some F.Reference) family) (sym (reference_wrong b versions terminal family e) ∙ right) in
          rw (reference_family b e) (same_family f family F.Reference p.1)
      go (Remap k) e =
          let p = neither (not (ltb k versions)) (terminal || differ (Some F.Remapping) family) (sym (remap_wrong b versions terminal family e) ∙ right) in
          rw (remap_family b e) (same_family f family F.Remapping (neither terminal (differ (Some F.Remapping) family) p.1).1)
      go Unknown e =
          let p = neither (not (is_call b)) (not (ltb (called_version b) versions) || (terminal || differ (Some F.Call) family)) (sym (unknown_wrong b versions terminal family e) ∙ right) in
          let q = neither (not (ltb (called_version b) versions)) (terminal || differ (Some F.Call) family) p.1 in
          rw (call_family b (not-false (is_call b) p.0)) (same_family f family F.Call (neither terminal (differ (Some F.Call) family) q.1).1)

  pub next_family : (file : List ℕ) (v n : ℕ) → b ≡ action_byte file n v → RowFamily file v n family → RowFamily file v (n + 1) (family_after (action_of b) family)
  next_family file v n is row f =
      sym (any_next (λ a. differ f (family_of (action_byte file a v))) n (sym (row f)) (ap (λ (c : ℕ). differ f (family_of c)) is)) ∙ joined f

pub first_family : (file : List ℕ) (v : ℕ) → RowFamily file v 0 None
first_family file v f = any_none (λ a. differ f (family_of (action_byte file a v))) ∙ sym (differ-none f)

-- ---- four tests in the order of their numbers

module _ (file : List ℕ) (a v : ℕ) where
  -- are one test, and the reason is that of the lowest number
  pub in_order : action_check file a v ≡ holds (not (is_faulty file a v)) (reason_at file a v)
  unfolding action_check
  in_order = simp holds_or

  at_ends : is_at_entry_or_exit file a v ≡ (not (eqb (action_byte file a v) 0) && is_entry_or_exit file v)
  at_ends = and_comm (is_entry_or_exit file v) (not (eqb (action_byte file a v) 0))

  -- are one test of the byte
  pub one_test : (b versions : ℕ) (terminal : Bool) (family : Option Family) {bad : Bool} →
      bad ≡ is_wrong b versions terminal family →
      b ≡ action_byte file a v →
      versions ≡ (array_of file a).versions →
      terminal ≡ is_entry_or_exit file v →
      RowFamily file v a family →
      action_check file a v ≡ holds (not bad) (reason_of b versions terminal (action_at file a v))
  unfolding is_wrong reason_of
  one_test b versions terminal family is e f g row = rw (is, e, f, g) (in_order ∙ simp (at_ends, row (family_of (action_byte file a v))))
