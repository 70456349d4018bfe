-- A list of mappings and its sets of versions, as one mapping is added at the end.
-- Assumes nothing.
use mathlib.Core.Path.{◌≡◌, refl, sym, ap, subst, ◌∙◌}
use mathlib.Core.Bool.{not}
use mathlib.Core.List.{List, [], ◌∷◌, ◌++◌, append-nil}
use mathlib.Core.Logic.{inl, ⊎_elim}
use Prim.Native.Nat.{ℕ, ◌+◌, ◌/◌, ◌^◌, ◌≤◌, ◌<◌}
use native.Mathlib.Nat.{add-zero}
use native.Mathlib.Omega.{arith}
use lib.Arith.{bin_ind}
use lib.Bits.{bit_or, or_comm, or_step}
use lib.Dec.{T}
use lib.Ieee.Bits.{is_true, is_false}
use lib.ListN.{length}
use Rattle.words.proofs.Tests.{either}
use Rattle.directives.specs.declared.spread.Mapping.{Mapping}
use Rattle.mappings.specs.Along.{alike}
use Rattle.mappings.specs.Computed.{version_set}
use Rattle.mappings.specs.Converted.{is_listed, extended, version_in}
use Rattle.mappings.proofs.Lists.{alike_iff, listed_cons, listed_later, number_of, number_head}

-- ---- the list

module _ (m : Mapping) (ms : List Mapping) where
  pub extended_listed : T (is_listed m ms) → extended ms (m ∷ []) ≡ ms
  unfolding extended
  extended_listed t = rw (is_true (is_listed m ms) t)

  pub extended_unlisted : T (not (is_listed m ms)) → extended ms (m ∷ []) ≡ ms ++ m ∷ []
  unfolding extended
  extended_unlisted f = rw (is_false (is_listed m ms) f)

-- ---- numbers

module _ (m : Mapping) where
  -- behind a list that lacks it
  number_behind : (ms ns : List Mapping) → (T (is_listed m ms) → ⊥) → version_in (ms ++ ns) m ≡ length ms + version_in ns m
  unfolding version_in
  number_behind [] ns new = omega arith
  number_behind (x ∷ ms) ns new =
      let other : T (not (alike x m)) = ⊎_elim (λ t. absurd (new ((listed_cons m x ms).1 (inl ((alike_iff x m).0 t))))) (λ f. f) (either (alike x m)) in
      rw (is_false (alike x m) other) (omega (arith, number_behind ms ns (λ t. new (listed_later m x ms t))))

  -- at the end of such a list
  pub number_last : (ms : List Mapping) → (T (is_listed m ms) → ⊥) → version_in (ms ++ m ∷ []) m ≡ length ms
  number_last ms new = number_behind ms (m ∷ []) new ∙ ap (λ (k : ℕ). length ms + k) (number_head m (m ∷ []) refl) ∙ add-zero (length ms)

  -- a mapping that is not listed has the number behind the last
  number_none : (ms : List Mapping) → (T (is_listed m ms) → ⊥) → version_in ms m ≡ length ms
  unfolding version_in
  number_none ms new = ap (λ (xs : List Mapping). version_in xs m) (sym (append-nil ms)) ∙ number_behind ms [] new ∙ add-zero (length ms)

  pub number_below : (ms : List Mapping) → version_in ms m < length ms → T (is_listed m ms)
  number_below ms h = ⊎_elim (λ t. t) (λ f. absurd (omega (arith, number_none ms (subst T (is_false (is_listed m ms) f))))) (either (is_listed m ms))

  pub number_within : (ms : List Mapping) → version_in ms m ≤ length ms
  number_within ms =
      ⊎_elim
      (λ t. omega (arith, (number_of m ms t).0))
      (λ f. omega (arith, number_none ms (subst T (is_false (is_listed m ms) f))))
      (either (is_listed m ms))

-- ---- sets

-- the order of members is free
or_swap : (a b c : ℕ) → bit_or (bit_or a b) c ≡ bit_or (bit_or a c) b
or_swap = bin_ind (λ (a : ℕ). (b c : ℕ) → bit_or (bit_or a b) c ≡ bit_or (bit_or a c) b) or_comm step
  where
    step : (a : ℕ) → ((b c : ℕ) → bit_or (bit_or (a / 2) b) c ≡ bit_or (bit_or (a / 2) c) b) → (b c : ℕ) → bit_or (bit_or a b) c ≡ bit_or (bit_or a c) b
    step a half b c =
        let with-b : bit_or a b / 2 ≡ bit_or (a / 2) (b / 2) = omega (arith, or_step a b) in
        let with-c : bit_or a c / 2 ≡ bit_or (a / 2) (c / 2) = omega (arith, or_step a c) in
        omega (
          arith,
          or_step (bit_or a b) c,
          or_step (bit_or a c) b,
          or_step a b,
          or_step a c,
          ap (λ (x : ℕ). bit_or x (c / 2)) with-b,
          ap (λ (x : ℕ). bit_or x (b / 2)) with-c,
          half (b / 2) (c / 2),
        )

-- one mapping more at the end
pub set_more : (ms ns : List Mapping) (m : Mapping) → version_set ms (ns ++ m ∷ []) ≡ bit_or (version_set ms ns) (2 ^ version_in ms m)
unfolding version_set
set_more ms [] m = refl
set_more ms (n ∷ ns) m =
    ap (λ (s : ℕ). bit_or s (2 ^ version_in ms n)) (set_more ms ns m)
    ∙ or_swap (version_set ms ns) (2 ^ version_in ms m) (2 ^ version_in ms n)
