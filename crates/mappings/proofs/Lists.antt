-- Laws of mappings in lists: which are listed, at which number, none twice; and how versions are numbered.
-- Assumes nothing.
use mathlib.Core.Path.{◌≡◌, refl, sym, ap, ap₂, subst, ◌∙◌}
use mathlib.Core.Bool.{Bool, true, false, not, ◌||◌, cond}
use mathlib.Core.List.{List, [], ◌∷◌, ◌++◌}
use mathlib.Core.Logic.Iff
use mathlib.Core.Logic.{◌↔◌, ◌⊎◌, inl, inr, ⊎_elim}
use Prim.Native.Nat.{ℕ, zero, suc, ◌+◌, ◌^◌, ◌≤◌, ◌<◌, zero-le, suc-le-suc}
use native.Mathlib.Nat.{le_of_suc-le-suc, eq-or-lt_of_le}
use native.Mathlib.Omega.{arith}
use borrow.Author.Tests.{lt-ltb}
use lib.Bits.{bit_or}
use lib.Dec.{T, eqb, ltb, ltb→lt, nltb→le}
use lib.Ieee.Bits.{is_true, is_false}
use lib.ListN.{length, get_or, length-append, get_or-append}
use lib.Seq.{get_or_at}
use Rattle.words.proofs.Tests.{at_cond, either, or_iff, and_iff, eqb_iff}
use Rattle.words.specs.Tables.{rows}
use Rattle.directives.specs.declared.spread.Mapping.{Mapping}
use Rattle.mappings.specs.Along.{alike}
use Rattle.mappings.specs.Computed.{version_set}
use Rattle.mappings.specs.Converted.{is_listed, extended, numbered, version_in}
use Rattle.mappings.specs.Rules.{Once}

-- ---- alike is equal

abbrev of_two : ℕ → ℕ → Mapping
of_two x y = record { first = x; second = y }

pub alike_iff : (m n : Mapping) → T (alike m n) ↔ (m ≡ n)
alike_iff m n =
    let both = and_iff (eqb m.first n.first) (eqb m.second n.second) (eqb_iff m.first n.first) (eqb_iff m.second n.second) in (
      λ h. ap₂ of_two (both.0 h).0 (both.0 h).1,
      λ e. both.1 (ap (λ (x : Mapping). x.first) e, ap (λ (x : Mapping). x.second) e),
    )

-- ---- listed

module _ (m : Mapping) where
  pub listed_none : T (is_listed m []) → ⊥
  unfolding is_listed
  listed_none h = h

  pub listed_cons : (n : Mapping) (ns : List Mapping) → T (is_listed m (n ∷ ns)) ↔ ((n ≡ m) ⊎ T (is_listed m ns))
  unfolding is_listed
  listed_cons n ns = or_iff (alike n m) (is_listed m ns) (alike_iff n m) Iff.rfl

  pub listed_first : (ns : List Mapping) → T (is_listed m (m ∷ ns))
  listed_first ns = (listed_cons m ns).1 (inl refl)

  pub listed_later : (n : Mapping) (ns : List Mapping) → T (is_listed m ns) → T (is_listed m (n ∷ ns))
  listed_later n ns h = (listed_cons n ns).1 (inr h)

  -- the head of a list is listed
  pub listed_head : (ms : List Mapping) → 0 < length ms → get_or ms 0 m ≡ m → T (is_listed m ms)
  listed_head [] h e = absurd (omega arith)
  listed_head (n ∷ ns) h e = (listed_cons n ns).1 (inl e)

  pub listed_left : (ms ns : List Mapping) → T (is_listed m ms) → T (is_listed m (ms ++ ns))
  listed_left [] ns h = absurd (listed_none h)
  listed_left (x ∷ ms) ns h = (listed_cons x (ms ++ ns)).1 (⊎_elim inl (λ g. inr (listed_left ms ns g)) ((listed_cons x ms).0 h))

  pub listed_right : (ms ns : List Mapping) → T (is_listed m ns) → T (is_listed m (ms ++ ns))
  listed_right [] ns h = h
  listed_right (x ∷ ms) ns h = listed_later x (ms ++ ns) (listed_right ms ns h)

  pub listed_either : (ms ns : List Mapping) → T (is_listed m (ms ++ ns)) → T (is_listed m ms) ⊎ T (is_listed m ns)
  listed_either [] ns h = inr h
  listed_either (x ∷ ms) ns h =
      ⊎_elim
      (λ e. inl ((listed_cons x ms).1 (inl e)))
      (λ g. ⊎_elim (λ l. inl (listed_later x ms l)) inr (listed_either ms ns g))
      ((listed_cons x (ms ++ ns)).0 h)

  -- its number is that of an equal one
  pub number_of : (ms : List Mapping) → T (is_listed m ms) → (version_in ms m < length ms) × ((d : Mapping) → get_or ms (version_in ms m) d ≡ m)
  unfolding is_listed version_in
  number_of [] h = absurd h
  number_of (n ∷ ns) h = ⊎_elim yes (no (number_of ns)) (either (alike n m))
    where
      Numbered : Type 0
      Numbered = (version_in (n ∷ ns) m < length (n ∷ ns)) × ((d : Mapping) → get_or (n ∷ ns) (version_in (n ∷ ns) m) d ≡ m)

      yes : T (alike n m) → Numbered
      yes t = rw (is_true (alike n m) t) (omega arith, λ d. (alike_iff n m).0 t)

      no : (T (is_listed m ns) → (version_in ns m < length ns) × ((d : Mapping) → get_or ns (version_in ns m) d ≡ m)) → T (not (alike n m)) → Numbered
      no rest t =
          let g = rest (subst (λ (b : Bool). T (b || is_listed m ns)) (is_false (alike n m) t) h) in
          rw (is_false (alike n m) t) (suc-le-suc g.0, g.1)

  -- the head has number 0
  pub number_head : (ms : List Mapping) → get_or ms 0 m ≡ m → version_in ms m ≡ 0
  unfolding version_in
  number_head [] e = refl
  number_head (n ∷ ns) e = rw (is_true (alike n m) ((alike_iff n m).1 e))

  -- more behind it leaves the number
  number_left : (ms ns : List Mapping) → T (is_listed m ms) → version_in (ms ++ ns) m ≡ version_in ms m
  unfolding is_listed version_in
  number_left [] ns h = absurd h
  number_left (n ∷ ms) ns h = ⊎_elim
      (λ t. rw (is_true (alike n m) t))
      (λ t. rw (is_false (alike n m) t) (ap suc (number_left ms ns (subst (λ (b : Bool). T (b || is_listed m ms)) (is_false (alike n m) t) h))))
      (either (alike n m))

  -- a list made of those that a test passes
  one_row : (x : Mapping) (b : Bool) → T (is_listed m (cond b (x ∷ []) [])) ↔ (T b × (x ≡ m))
  one_row x true = (λ h. (tt, ⊎_elim (λ e. e) (λ g. absurd (listed_none g)) ((listed_cons x []).0 h)), λ p. (listed_cons x []).1 (inl p.1))
  one_row x false = (λ h. absurd (listed_none h), λ p. absurd p.0)

  pub listed_rows : (test : ℕ → Bool) (f : ℕ → Mapping) (n : ℕ)
      → T (is_listed m (rows (λ u. cond (test u) (f u ∷ []) []) n)) ↔ ((u : ℕ) × (u < n) × T (test u) × (f u ≡ m))
  unfolding rows
  listed_rows test f zero = (λ h. absurd (listed_none h), λ p. absurd (omega (arith, p.1)))
  listed_rows test f (suc n) =
      let before = rows (λ u. cond (test u) (f u ∷ []) []) n in
      let ih = listed_rows test f n in
      let here = one_row (f n) (test n) in (
        λ h. ⊎_elim
            (λ g. let p = ih.0 g in (p.0, let z = p.1 in omega arith, p.2, p.3))
            (λ g. let p = here.0 g in (n, omega arith, p.0, p.1))
            (listed_either before (cond (test n) (f n ∷ []) []) h),
        λ p. ⊎_elim
            (λ e. listed_right before _ (here.1 (subst (λ (x : ℕ). T (test x)) e p.2, ap f (sym e) ∙ p.3)))
            (λ l. listed_left before _ (ih.1 (p.0, l, p.2, p.3)))
            (eq-or-lt_of_le (le_of_suc-le-suc p.1)),
      )

pub listed_at : (ms : List Mapping) (i : ℕ) (d : Mapping) → i < length ms → T (is_listed (get_or ms i d) ms)
listed_at [] i d h = absurd (omega arith)
listed_at (m ∷ ms) zero d h = listed_first m ms
listed_at (m ∷ ms) (suc i) d h = listed_later (get_or ms i d) m ms (listed_at ms i d (le_of_suc-le-suc h))

-- ---- a list extended by another

module _ (m : Mapping) where
  pub extended_old : (ms ns : List Mapping) → T (is_listed m ms) → T (is_listed m (extended ms ns))
  unfolding extended
  extended_old ms [] h = h
  extended_old ms (n ∷ ns) h = extended_old (cond (is_listed n ms) ms (ms ++ n ∷ [])) ns (at_cond (λ xs. T (is_listed m xs)) (is_listed n ms) (λ _. h) (λ _. listed_left m ms (n ∷ []) h))

  pub extended_new : (ms ns : List Mapping) → T (is_listed m ns) → T (is_listed m (extended ms ns))
  unfolding extended
  extended_new ms [] h = absurd (listed_none m h)
  extended_new ms (n ∷ ns) h =
      ⊎_elim
      (λ e. extended_old (cond (is_listed n ms) ms (ms ++ n ∷ [])) ns (at_cond (λ xs. T (is_listed m xs)) (is_listed n ms)
      (λ t. subst (λ (x : Mapping). T (is_listed x ms)) e (rw t tt))
      (λ _. listed_right m ms (n ∷ []) ((listed_cons m n []).1 (inl e)))))
      (extended_new (cond (is_listed n ms) ms (ms ++ n ∷ [])) ns)
      ((listed_cons m n ns).0 h)

  -- each was listed in one of the two
  extended_from : (ms ns : List Mapping) → T (is_listed m (extended ms ns)) → T (is_listed m ms) ⊎ T (is_listed m ns)
  unfolding extended
  extended_from ms [] h = inl h
  extended_from ms (n ∷ ns) h =
      ⊎_elim
      (at_cond (λ xs. T (is_listed m xs) → T (is_listed m ms) ⊎ T (is_listed m (n ∷ ns))) (is_listed n ms) (λ _. inl)
      (λ _ t. ⊎_elim inl (λ o. inr ((listed_cons m n ns).1 (⊎_elim inl (λ x. absurd (listed_none m x)) ((listed_cons m n []).0 o)))) (listed_either m ms (n ∷ []) t)))
      (λ g. inr (listed_later m n ns g))
      (extended_from (cond (is_listed n ms) ms (ms ++ n ∷ [])) ns h)

  -- the number stays
  extended_number : (ms ns : List Mapping) → T (is_listed m ms) → version_in (extended ms ns) m ≡ version_in ms m
  unfolding extended
  extended_number ms [] h = refl
  extended_number ms (n ∷ ns) h =
      at_cond (λ xs. version_in (extended xs ns) m ≡ version_in ms m) (is_listed n ms)
      (λ _. extended_number ms ns h)
      (λ _. extended_number (ms ++ n ∷ []) ns (listed_left m ms (n ∷ []) h) ∙ number_left m ms (n ∷ []) h)

-- by two lists, one after the other
pub extended-append : (ms xs ys : List Mapping) → extended ms (xs ++ ys) ≡ extended (extended ms xs) ys
unfolding extended
extended-append ms [] ys = refl
extended-append ms (x ∷ xs) ys = extended-append (cond (is_listed x ms) ms (ms ++ x ∷ [])) xs ys

-- what is listed keeps its set of versions
pub extended-set : (ms xs ns : List Mapping) → ((m : Mapping) → T (is_listed m ns) → T (is_listed m ms)) → version_set (extended ms xs) ns ≡ version_set ms ns
unfolding version_set
extended-set ms xs [] all = refl
extended-set ms xs (n ∷ ns) all =
    ap₂ (λ (s k : ℕ). bit_or s (2 ^ k)) (extended-set ms xs ns (λ m t. all m (listed_later m n ns t))) (extended_number n ms xs (all n (listed_first n ns)))

-- none stands twice
once_more : (ms : List Mapping) (n : Mapping) → Once ms → (T (is_listed n ms) → ⊥) → Once (ms ++ n ∷ [])
once_more ms n once new i j d h l e =
    let size : length (ms ++ n ∷ []) ≡ length ms + 1 = length-append ms (n ∷ []) in
    let at_i : get_or (ms ++ n ∷ []) i d ≡ get_or ms i d = get_or-append ms (n ∷ []) d i (omega arith) in
    ⊎_elim
    (λ q. let at_j : get_or (ms ++ n ∷ []) j d ≡ n = ap (λ (x : ℕ). get_or (ms ++ n ∷ []) x d) q ∙ get_or_at ms n [] d (length ms) refl in
    new (subst (λ (x : Mapping). T (is_listed x ms)) (sym at_i ∙ e ∙ at_j) (listed_at ms i d (omega arith))))
    (λ q. once i j d h q (sym at_i ∙ e ∙ get_or-append ms (n ∷ []) d j q))
    (eq-or-lt_of_le (let z : j ≤ length ms = omega arith in z))

extended_once : (ms ns : List Mapping) → Once ms → Once (extended ms ns)
unfolding extended
extended_once ms [] h = h
extended_once ms (n ∷ ns) h = extended_once (cond (is_listed n ms) ms (ms ++ n ∷ [])) ns (at_cond Once (is_listed n ms) (λ _. h) (λ f. once_more ms n h (subst T f)))

-- old numbers stay, and what has a new one is new
pub extended_keeps : (ms ns : List Mapping) (k : ℕ) (d : Mapping) → k < length ms → get_or (extended ms ns) k d ≡ get_or ms k d
unfolding extended
extended_keeps ms [] k d h = refl
extended_keeps ms (n ∷ ns) k d h =
    at_cond (λ xs. get_or (extended xs ns) k d ≡ get_or ms k d) (is_listed n ms)
    (λ _. extended_keeps ms ns k d h)
    (λ _. extended_keeps (ms ++ n ∷ []) ns k d (omega (arith, length-append ms (n ∷ []))) ∙ get_or-append ms (n ∷ []) d k h)

pub extended_longer : (ms ns : List Mapping) → length ms ≤ length (extended ms ns)
unfolding extended
extended_longer ms [] = omega arith
extended_longer ms (n ∷ ns) =
    at_cond (λ xs. length ms ≤ length (extended xs ns)) (is_listed n ms)
    (λ _. extended_longer ms ns)
    (λ _. omega (arith, length-append ms (n ∷ []), extended_longer (ms ++ n ∷ []) ns))

extended_behind : (ms ns : List Mapping) (k : ℕ) (d : Mapping) → length ms ≤ k → k < length (extended ms ns) → T (is_listed (get_or (extended ms ns) k d) ns)
unfolding extended
extended_behind ms [] k d h l = absurd (omega arith)
extended_behind ms (n ∷ ns) k d h l =
    at_cond (λ xs. k < length (extended xs ns) → T (is_listed (get_or (extended xs ns) k d) (n ∷ ns))) (is_listed n ms)
    (λ _ l. listed_later _ n ns (extended_behind ms ns k d h l))
    (λ _ l. let size = length-append ms (n ∷ []) in
    (listed_cons _ n ns).1 (⊎_elim
    (λ e. inl (sym (extended_keeps (ms ++ n ∷ []) ns k d (omega (arith, size)) ∙ ap (λ (x : ℕ). get_or (ms ++ n ∷ []) x d) (sym e) ∙ get_or_at ms n [] d (length ms) refl)))
    (λ g. inr (extended_behind (ms ++ n ∷ []) ns k d (omega (arith, size)) l))
    (eq-or-lt_of_le h)))
    l

-- ---- a list in which none stands twice, of members of another, is no longer

unfoldable without : Mapping → List Mapping → List Mapping
without m [] = []
without m (n ∷ ns) = cond (alike n m) ns (n ∷ without m ns)

module _ (m : Mapping) where
  without_length : (ns : List Mapping) → T (is_listed m ns) → suc (length (without m ns)) ≡ length ns
  unfolding without is_listed
  without_length [] h = absurd h
  without_length (n ∷ ns) h = ⊎_elim
      (λ t. rw (is_true (alike n m) t))
      (λ t. rw (is_false (alike n m) t) (ap suc (without_length ns (subst (λ (b : Bool). T (b || is_listed m ns)) (is_false (alike n m) t) h))))
      (either (alike n m))

  without_listed : (y : Mapping) (ns : List Mapping) → (m ≡ y → ⊥) → T (is_listed y ns) → T (is_listed y (without m ns))
  unfolding without
  without_listed y [] other h = h
  without_listed y (n ∷ ns) other h = ⊎_elim
      (λ t. rw (is_true (alike n m) t) (⊎_elim (λ e. absurd (other (sym ((alike_iff n m).0 t) ∙ e))) (λ g. g) ((listed_cons y n ns).0 h)))
      (λ t. rw (is_false (alike n m) t) ((listed_cons y n (without m ns)).1 (⊎_elim inl (λ g. inr (without_listed y ns other g)) ((listed_cons y n ns).0 h))))
      (either (alike n m))

pub no_longer : (ms ns : List Mapping) → Once ms → ((m : Mapping) → T (is_listed m ms) → T (is_listed m ns)) → length ms ≤ length ns
no_longer [] ns once all = zero-le
no_longer (m ∷ ms) ns once all =
    let rest = no_longer ms (without m ns) (λ i j d h l. once (suc i) (suc j) d (suc-le-suc h) (suc-le-suc l))
    (λ y t. without_listed m y ns
    (λ e. let k = number_of y ms t in once 0 (suc (version_in ms y)) m (omega arith) (suc-le-suc k.0) (e ∙ sym (k.1 m)))
    (all y (listed_later y m ms t))) in
    omega (arith, rest, without_length m ns (all m (listed_first m ms)))

-- ---- versions numbered from the first mapping on, then by vertex

module _ (first : Mapping) (given : ℕ → List Mapping) where
  -- those of the first n vertices
  abbrev up_to : ℕ → List Mapping
  up_to n = numbered first given n

  pub numbered_some : (n : ℕ) → 0 < length (up_to n)
  unfolding numbered
  numbered_some zero = omega arith
  numbered_some (suc n) = omega (arith, numbered_some n, extended_longer (up_to n) (given n))

  pub numbered_first : (n : ℕ) (d : Mapping) → get_or (up_to n) 0 d ≡ first
  unfolding numbered
  numbered_first zero d = refl
  numbered_first (suc n) d = extended_keeps (up_to n) (given n) 0 d (numbered_some n) ∙ numbered_first n d

  pub numbered_once : (n : ℕ) → Once (up_to n)
  unfolding numbered
  numbered_once zero = λ i j d h l e. omega arith
  numbered_once (suc n) = extended_once (up_to n) (given n) (numbered_once n)

  pub numbered_all : (n v : ℕ) (m : Mapping) → v < n → T (is_listed m (given v)) → T (is_listed m (up_to n))
  unfolding numbered
  numbered_all zero v m h t = absurd (omega arith)
  numbered_all (suc n) v m h t =
      ⊎_elim
      (λ e. extended_new m (up_to n) (given n) (subst (λ (u : ℕ). T (is_listed m (given u))) e t))
      (λ l. extended_old m (up_to n) (given n) (numbered_all n v m l t))
      (eq-or-lt_of_le (le_of_suc-le-suc h))

  -- each is the first, or given by a vertex
  pub numbered_from : (n : ℕ) (m : Mapping) → T (is_listed m (up_to n)) → (first ≡ m) ⊎ ((v : ℕ) × T (is_listed m (given v)))
  unfolding numbered
  numbered_from zero m h = ⊎_elim inl (λ x. absurd (listed_none m x)) ((listed_cons m first []).0 h)
  numbered_from (suc n) m h = ⊎_elim (numbered_from n m) (λ g. inr (n, g)) (extended_from m (up_to n) (given n) h)

  -- the vertex at which version k is added to those of the first n vertices
  unfoldable pub added_at : ℕ → ℕ → ℕ
  unfolding numbered
  added_at zero k = 0
  added_at (suc v) k = cond (ltb k (length (up_to v))) (added_at v k) v

  -- it gives the version, and no lower one does
  pub record Added (n k : ℕ) : Type 0 where
    pub below : added_at n k < n
    pub given_there : (d : Mapping) → T (is_listed (get_or (up_to n) k d) (given (added_at n k)))
    pub none_lower : (u : ℕ) (d : Mapping) → u < added_at n k → T (is_listed (get_or (up_to n) k d) (given u)) → ⊥

  pub added : (n k : ℕ) → 0 < k → k < length (up_to n) → Added n k
  unfolding numbered added_at
  added zero k h l = absurd (omega arith)
  added (suc v) k h l = ⊎_elim
      (λ t. let small = ltb→lt k (length (up_to v)) t in
      let r = added v k h small in
      let same : (d : Mapping) → get_or (up_to (suc v)) k d ≡ get_or (up_to v) k d = λ d. extended_keeps (up_to v) (given v) k d small in
      let e : added_at (suc v) k ≡ added_at v k = ap (λ (b : Bool). cond b (added_at v k) v) (is_true (ltb k (length (up_to v))) t) in
      record {
        below = omega (arith, e, r.below);
        given_there = λ d. subst (λ (x : ℕ). T (is_listed (get_or (up_to (suc v)) k d) (given x))) (sym e) (subst (λ (m : Mapping). T (is_listed m (given (added_at v k)))) (sym (same d)) (r.given_there d));
        none_lower = λ u d q i. r.none_lower u d (omega (arith, e, q)) (subst (λ (m : Mapping). T (is_listed m (given u))) (same d) i);
      })
      (λ t. let large = nltb→le k (length (up_to v)) t in
      let e : added_at (suc v) k ≡ v = ap (λ (b : Bool). cond b (added_at v k) v) (is_false (ltb k (length (up_to v))) t) in
      record {
        below = omega (arith, e);
        given_there = λ d. subst (λ (x : ℕ). T (is_listed (get_or (up_to (suc v)) k d) (given x))) (sym e) (extended_behind (up_to v) (given v) k d large l);
        none_lower = λ u d q i.
            let m = get_or (up_to (suc v)) k d in
            let p = number_of m (up_to v) (numbered_all v u m (omega (arith, e, q)) i) in
            numbered_once (suc v) (version_in (up_to v) m) k d (omega (arith, p.0)) l (extended_keeps (up_to v) (given v) _ d p.0 ∙ p.1 d);
      })
      (either (ltb k (length (up_to v))))

  pub added_rising : (n j k : ℕ) → 0 < j → j < k → k < length (up_to n) → added_at n j ≤ added_at n k
  unfolding numbered added_at
  added_rising zero j k z h l = zero-le
  added_rising (suc v) j k z h l = ⊎_elim
      (λ t. let small = ltb→lt k (length (up_to v)) t in
      let e : added_at (suc v) k ≡ added_at v k = ap (λ (b : Bool). cond b (added_at v k) v) (is_true (ltb k (length (up_to v))) t) in
      let f : added_at (suc v) j ≡ added_at v j = ap (λ (b : Bool). cond b (added_at v j) v) (lt-ltb j (length (up_to v)) (omega arith)) in
      omega (arith, e, f, added_rising v j k z h small))
      (λ t. let e : added_at (suc v) k ≡ v = ap (λ (b : Bool). cond b (added_at v k) v) (is_false (ltb k (length (up_to v))) t) in
      omega (arith, e, (added (suc v) j z (omega arith)).below))
      (either (ltb k (length (up_to v))))
