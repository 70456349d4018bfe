-- The action byte of an array at a vertex, from the set of versions that the directive there gives it.
-- Assumes nothing.
use mathlib.Core.Path.{◌≡◌, refl, sym, ap, ◌∙◌}
use mathlib.Core.Bool.{true, false, true≢false}
use mathlib.Core.List.{List, [], ◌∷◌}
use Prim.Native.Nat.{ℕ, ◌+◌}
use native.Mathlib.Decide.{ℕ_discrete}
use lib.Ieee.Bits.{is_true}
use lib.ListN.{get_or}
use Rattle.sets.proofs.Laws.{has_zero, two_several}
use Rattle.sets.specs.Sets.{has, several}
use Rattle.directives.specs.Layout.{reference_at}
use Rattle.directives.specs.declared.spread.Mapping.{Mapping}
use Rattle.mappings.proofs.Held.{set_exact}
use Rattle.mappings.proofs.Lists.{listed_first}
use Rattle.mappings.specs.Computed.{given_to, versions_of, version_set, given_set}
use Rattle.mappings.specs.Converted.{action_for, version_in}

-- the first of a list is in its set
first_in : (ms : List Mapping) (n : Mapping) (ns : List Mapping) → has (version_set ms (n ∷ ns)) (version_in ms n) ≡ true
first_in ms n ns = is_true _ ((set_exact ms (n ∷ ns) (version_in ms n)).1 (n, listed_first n ns, refl))

module _ (file : List ℕ) (a v : ℕ) where
  abbrev all : List Mapping
  all = versions_of file a

  abbrev byte : List Mapping → ℕ
  byte = action_for file (given_to file) a v

  none : (ns : List Mapping) → version_set all ns ≡ 0 → get_or file (reference_at file v a) 0 ≡ byte ns
  none [] e = refl
  none (n ∷ ns) e = absurd (true≢false (sym (first_in all n ns) ∙ ap (λ (s : ℕ). has s (version_in all n)) e ∙ has_zero (version_in all n)))

  one : (ns : List Mapping) (k : ℕ) → several (version_set all ns) ≡ false → has (version_set all ns) k ≡ true → 0x40 + k ≡ byte ns
  unfolding version_set
  one [] k s h = absurd (true≢false (sym h ∙ has_zero k))
  one (n ∷ ns) k s h = elim (ℕ_discrete k (version_in all n)) [
    | yes e ↦ ap (λ (j : ℕ). 0x40 + j) e
    | no other ↦ absurd (true≢false (sym (two_several _ (record { first = k; second = version_in all n; differ = other; has_first = h; has_second = first_in all n ns })) ∙ s))
  ]

  -- it gives none: the byte stays
  pub stays : given_set file a v ≡ 0 → get_or file (reference_at file v a) 0 ≡ byte (given_to file a v)
  unfolding given_set
  stays = none (given_to file a v)

  -- it gives one: a remapping to it
  pub remaps : (k : ℕ) → several (given_set file a v) ≡ false → has (given_set file a v) k ≡ true → 0x40 + k ≡ byte (given_to file a v)
  unfolding given_set
  remaps = one (given_to file a v)
