-- Laws of a list that holds mappings: how a mapping is found, and what adding one leaves.
-- Assumes nothing.
use mathlib.Core.Path.{◌≡◌, refl, sym, ap, ap₂, subst, ◌∙◌}
use mathlib.Core.Bool.{cond, not}
use mathlib.Core.List.{List, [], ◌∷◌, ◌++◌}
use mathlib.Core.Logic.{⊎_elim}
use Prim.Native.Nat.{ℕ, suc, ◌+◌, ◌^◌, ◌≤◌, ◌<◌}
use native.Mathlib.Omega.{arith}
use borrow.Author.Tests.{ltb-false}
use lib.Bits.{bit_or}
use lib.Dec.{T, ltb, ltb→lt, nltb→le}
use lib.ListN.{length, take, length-append, length-take}
use Rattle.std.proofs.lemmas.List.Recursion.{is_position_or_len}
use Rattle.std.specs.List.{position, position_or_len}
use Rattle.std.specs.Option.{unwrap_or}
use Rattle.directives.specs.declared.spread.Mapping.{Mapping}
use Rattle.mappings.proofs.Lists.{listed_either, number_of, extended_old, extended_new, extended_longer, extended-set}
use Rattle.mappings.proofs.VersionSets.{extended_listed, extended_unlisted, number_last, number_below, number_within, set_more}
use Rattle.mappings.specs.Along.{alike}
use Rattle.mappings.specs.Computed.{version_set}
use Rattle.mappings.specs.Converted.{is_listed, extended, version_in}
use Rattle.sets.specs.Sets.{width}
use Rattle.words.proofs.Tests.{either, by_test}
use Rattle.numbering.specs.Lists.{Holds, Grows}
use Rattle.numbering.specs.declared.list.Numbered.{Numbered}

-- ---- how a mapping is found

-- its number is its place, and the length where it has none
module _ (ms : List Mapping) (m : Mapping) where
  place : version_in ms m ≡ position_or_len (λ n. alike n m) ms
  unfolding version_in
  place = is_position_or_len (λ ns. version_in ns m) (λ n. alike n m) refl (λ n ns. let z : suc (version_in ns m) ≡ 1 + version_in ns m = omega arith in ap (cond (alike n m) 0) z) ms

  pub number_found : unwrap_or (position (λ n. alike n m) ms) (length ms) ≡ version_in ms m
  number_found =
      let k = position_or_len (λ n. alike n m) ms in
      by_test (ltb k (length ms))
      (λ t. rw t (sym place))
      (λ t. rw t (omega (arith, place, number_within m ms, ltb-false k (length ms) t)))

-- ---- what adding one leaves

-- the count says whether all are there
module _ {ms ns list : List Mapping} {p : Numbered} (h : Holds ms ns list p) where
  large : width < p.count → width < length ms
  large over = ⊎_elim (ltb→lt width (length ms)) (λ f. let few = nltb→le width (length ms) f in absurd (omega (arith, (h.few few).0))) (either (ltb width (length ms)))

  small : p.count ≤ width → length ms ≤ width
  small few = ⊎_elim (λ t. absurd (omega (arith, h.many (ltb→lt width (length ms) t)))) (nltb→le width (length ms)) (either (ltb width (length ms)))

  -- those at hand stay listed
  listed_more : (m x : Mapping) → T (is_listed x (ns ++ m ∷ [])) → T (is_listed x (extended ms (m ∷ [])))
  listed_more m x t = ⊎_elim (λ g. extended_old x ms (m ∷ []) (h.listed x g)) (extended_new x ms (m ∷ [])) (listed_either x ns (m ∷ []) t)

  -- all are there after it too
  all_there : (m : Mapping) {list' : List Mapping} {q : Numbered} {xs : List Mapping} → length list' ≡ width → extended ms (m ∷ []) ≡ xs → length xs ≤ width
      → q.count ≡ length xs → take (length xs) list' ≡ xs → q.given ≡ version_set xs (ns ++ m ∷ []) → Holds (extended ms (m ∷ [])) (ns ++ m ∷ []) list' q
  all_there m {list'} {q} room e few count are given =
      subst (λ (xs : List Mapping). Holds xs (ns ++ m ∷ []) list' q) (sym e) (record {
        room = room;
        listed = λ x t. subst (λ (xs : List Mapping). T (is_listed x xs)) e (listed_more m x t);
        few = λ _. (count, are, given);
        many = λ over. absurd (omega arith);
      })

-- there are too many already
pub grows_full : {list : List Mapping} {p : Numbered} (m : Mapping) → length list ≡ width → width < p.count → p.count ≤ width + 1 → Grows (m ∷ []) list p list p
grows_full m room over most = record {
  room = room;
  most = most;
  holds = λ ms ns h. record {
    room = room;
    listed = listed_more h m;
    few = λ few. absurd (omega (arith, large h over, extended_longer ms (m ∷ [])));
    many = λ _. omega arith;
  };
}

-- k is the number of the mapping among those that are there
pub record Found (list : List Mapping) (p : Numbered) (m : Mapping) (k : ℕ) : Type 0 where
  pub room : length list ≡ width
  pub few : p.count ≤ width
  pub is : k ≡ version_in (take p.count list) m

module _ {list : List Mapping} {p : Numbered} {m : Mapping} {k : ℕ} (found : Found list p m k) where
  -- the list that is held
  module _ {ms ns : List Mapping} (h : Holds ms ns list p) where
    size : p.count ≡ length ms
    size = (h.few (small h found.few)).0

    are : take p.count list ≡ ms
    are = ap (λ (n : ℕ). take n list) size ∙ (h.few (small h found.few)).1

    number : k ≡ version_in ms m
    number = found.is ∙ ap (λ (xs : List Mapping). version_in xs m) are

    unlisted : p.count ≤ k → T (not (is_listed m ms))
    unlisted l = ⊎_elim (λ t. absurd (omega (arith, size, number, (number_of m ms t).0))) (λ f. f) (either (is_listed m ms))

  pub found_within : k ≤ p.count
  found_within = omega (arith, found.is, number_within m (take p.count list), length-take p.count list, found.room, found.few)

  -- one too many
  pub grows_over : {q : Numbered} → k ≡ width → q.count ≡ width + 1 → Grows (m ∷ []) list p list q
  grows_over e count = record {
    room = found.room;
    most = omega arith;
    holds = λ ms ns h.
        let longer : length (ms ++ m ∷ []) ≡ width + 1 = omega (arith, length-append ms (m ∷ []), size h, found_within) in
        let all = ap length (extended_unlisted m ms (unlisted h (omega arith))) ∙ longer in
        record {
          room = found.room;
          listed = listed_more h m;
          few = λ few. absurd (omega arith);
          many = λ _. count;
        };
  }

  -- one that is listed
  pub grows_listed : {q : Numbered} → k < p.count → q.count ≡ p.count → q.given ≡ bit_or p.given (2 ^ k) → Grows (m ∷ []) list p list q
  grows_listed l count given = record {
    room = found.room;
    most = omega arith;
    holds = λ ms ns h.
        all_there h m found.room
        (extended_listed m ms (number_below m ms (omega (arith, size h, number h))))
        (small h found.few)
        (count ∙ size h)
        (h.few (small h found.few)).1
        (given ∙ ap₂ (λ (s k : ℕ). bit_or s (2 ^ k)) (h.few (small h found.few)).2 (number h) ∙ sym (set_more ms ns m));
  }

  -- a new one
  pub grows_new : {list' : List Mapping} {q : Numbered} → length list' ≡ width → k < width → p.count ≤ k → take (k + 1) list' ≡ take k list ++ m ∷ []
      → q.count ≡ k + 1 → q.given ≡ bit_or p.given (2 ^ k) → Grows (m ∷ []) list p list' q
  grows_new {list'} room' below new put count given = record {
    room = room';
    most = omega arith;
    holds = λ ms ns h.
        let last : k ≡ p.count = omega (arith, found_within) in
        let e : extended ms (m ∷ []) ≡ ms ++ m ∷ [] = extended_unlisted m ms (unlisted h new) in
        let longer : length (ms ++ m ∷ []) ≡ k + 1 = omega (arith, length-append ms (m ∷ []), size h) in
        let old : version_set (ms ++ m ∷ []) ns ≡ p.given = ap (λ (xs : List Mapping). version_set xs ns) (sym e) ∙ extended-set ms (m ∷ []) ns h.listed ∙ sym (h.few (small h found.few)).2 in
        let behind : version_in (ms ++ m ∷ []) m ≡ k = number_last m ms (λ t. omega (arith, (number_of m ms t).0, number h, size h)) ∙ sym (last ∙ size h) in
        all_there h m room' e (omega arith) (count ∙ sym longer)
        (ap (λ (n : ℕ). take n list') longer ∙ put ∙ ap (λ (xs : List Mapping). xs ++ m ∷ []) (ap (λ (n : ℕ). take n list) last ∙ are h))
        (given ∙ sym (set_more (ms ++ m ∷ []) ns m ∙ ap₂ (λ (s k : ℕ). bit_or s (2 ^ k)) old behind));
  }
