-- The solver is exact: after as many rounds as vertices, in any order of the edges, the set of v holds k exactly if a path says so, and no
-- further round alters a set.
-- Lane k is the sets' bits k. A round raises the number of ones in lane k, or lane k is closed and stays as it is.
-- Assumes nothing.
use mathlib.Core.Path.{◌≡◌, refl, sym, ap, ap₂, subst, ◌∙◌}
use mathlib.Core.Bool.{Bool, true, false}
use mathlib.Core.List.{List, [], ◌∷◌, map}
use mathlib.Core.Logic.Iff
use mathlib.Core.Logic.{◌↔◌, ◌⊎◌, inl, inr, ⊎_elim}
use Prim.Native.Nat.{ℕ, zero, suc, ◌+◌, ◌-◌, ◌^◌, ◌≤◌, ◌<◌, zero-le, min, max}
use native.Mathlib.Nat.{le_refl, lt_of_le_of_lt, le_of_lt, le_of_suc-le-suc, eq-or-lt_of_le}
use native.Mathlib.Decide.{le_ind}
use native.Mathlib.Omega.{arith}
use lib.Dec.{T, eqb}
use lib.Bits.{bit_or, or_add_and, and_le_l, and_le_r, or_lt}
use lib.Pow.{pow_pos, pow-lt}
use lib.ListN.{length, get_or, set, replicate, length-replicate, length-set, get_or-map}
use lib.Seq.{map-set_same, set-get_or, ext_get_or}
use Rattle.sets.specs.Sets.{bit, has}
use Rattle.sets.proofs.Laws.{bit_lt, bit_or_lem, bit_and_lem, has_zero, same_members, under_power}
use Rattle.words.proofs.Tables.{at_set, zeros_at}
use Rattle.flow.specs.Order.{Order}
use Rattle.flow.specs.Paths.{last, next, edge_count}
use Rattle.flow.specs.Solver.{Leads, InSet, near, far, turn, handed, relaxed, swept, rounds, solution, Ends}
use Rattle.flow.proofs.Members.{member_iff, member_or, member_and}
use Rattle.flow.proofs.Paths.{extend}
use Rattle.flow.proofs.Rounds.{natural_order, turn_lt, when, when_lt, turn_when, near_lt, swept_keeps, rounds_keeps}

-- ---- masks

-- a union's bit is 1 more where only the second mask has it
or_gap : (a b k : ℕ) → bit (bit_or a b) k ≡ bit a k + (bit b k - bit a k)
or_gap a b k = omega (arith, bit_or_lem a b k)

-- a mask is no smaller for a union
pub or_le : (a b : ℕ) → a ≤ bit_or a b
or_le a b = omega (arith, or_add_and a b, and_le_r a b)

-- a union with a subset
pub or_subset : (a b : ℕ) → ((k : ℕ) → bit b k - bit a k ≡ 0) → bit_or a b ≡ a
unfolding has
or_subset a b h =
    same_members (bit_or a b) (bit_or a b) a (under_power (bit_or a b)) (omega (arith, under_power (bit_or a b), or_le a b))
    (λ k _. ap (λ (x : ℕ). eqb x 1) (let e : bit (bit_or a b) k ≡ bit a k = omega (arith, or_gap a b k, h k) in e))

-- tests that pass together are the same
together : (x y : Bool) → (T x → T y) → (T y → T x) → x ≡ y
together true true h k = refl
together true false h k = absurd (h tt)
together false true h k = absurd (k tt)
together false false h k = refl

-- masks with the same members are the same
alike : (a b : ℕ) → ((k : ℕ) → T (has a k) → T (has b k)) → ((k : ℕ) → T (has b k) → T (has a k)) → a ≡ b
alike a b to from =
    same_members (suc (a + b)) a b
    (omega (arith, under_power a, pow-lt {i = a} {j = suc (a + b)} (omega arith)))
    (omega (arith, under_power b, pow-lt {i = b} {j = suc (a + b)} (omega arith)))
    (λ k _. together (has a k) (has b k) (to k) (from k))

-- ---- lists of masks

-- the number of masks that hold k
abbrev ones : ℕ → List ℕ → ℕ
ones k [] = 0
ones k (m ∷ s) = bit m k + ones k s

ones_set : (k : ℕ) (s : List ℕ) (i m : ℕ) → i < length s → ones k (set s i m) + bit (get_or s i 0) k ≡ ones k s + bit m k
ones_set k [] i m h = absurd (omega arith)
ones_set k (x ∷ s) zero m h = omega arith
ones_set k (x ∷ s) (suc i) m h = omega (arith, ones_set k s i m (le_of_suc-le-suc h))

-- it is at most the number of masks, and where it is that, all hold k
ones-le : (k : ℕ) (s : List ℕ) → ones k s ≤ length s
ones-le k [] = zero-le
ones-le k (x ∷ s) = omega (arith, bit_lt x k, ones-le k s)

ones_all : (k : ℕ) (s : List ℕ) → length s ≤ ones k s → (v : ℕ) → v < length s → bit (get_or s v 0) k ≡ 1
ones_all k [] h v l = absurd (omega arith)
ones_all k (x ∷ s) h zero l = omega (arith, bit_lt x k, ones-le k s)
ones_all k (x ∷ s) h (suc v) l = ones_all k s (omega (arith, bit_lt x k)) v (le_of_suc-le-suc l)

-- ---- paths in either direction

-- an edge leads, and so does one more in front
module _ (es : List ℕ) (p : ℕ → Bool) (i : ℕ) (listed : i < edge_count es) where
  leads_one : (along : Bool) → Leads es along p (near es along i) (far es along i)
  leads_one true = last (record { place = i; listed = listed; leaves = refl; enters = refl })
  leads_one false = last (record { place = i; listed = listed; leaves = refl; enters = refl })

  leads_more : (along : Bool) (w : ℕ) → T (p (far es along i)) → Leads es along p (far es along i) w → Leads es along p (near es along i) w
  leads_more true w h t = next (record { place = i; listed = listed; leaves = refl; enters = refl }) h t
  leads_more false w h t = extend t h (record { place = i; listed = listed; leaves = refl; enters = refl })

module _ (gives passes s : List ℕ) where
  -- k is handed on if it is given, or held and passed
  handed_iff : (u k : ℕ) → T (has (handed gives passes s u) k) ↔ (T (has (get_or gives u 0) k) ⊎ (T (has (get_or s u 0) k) × T (has (get_or passes u 0) k)))
  handed_iff u k = member_or _ _ k Iff.rfl (member_and _ _ k Iff.rfl Iff.rfl)

  module _ (es : List ℕ) (k : ℕ) where
    -- what an edge brings is held
    abbrev Brought : Bool → Type 0
    Brought along = (i v w : ℕ) → i < edge_count es → near es along i ≡ v → far es along i ≡ w → T (has (handed gives passes s w) k) → T (has (get_or s v 0) k)

    -- then what a path brings is held
    complete_along : Brought true → (v w : ℕ) → Leads es true (λ u. has (get_or passes u 0) k) v w → T (has (handed gives passes s w) k) → T (has (get_or s v 0) k)
    complete_along brought v w (last e) h = brought e.place v w e.listed e.leaves e.enters h
    complete_along brought v w (next {u} e p t) h =
        brought e.place v u e.listed e.leaves e.enters ((handed_iff u k).1 (inr (complete_along brought u w t h, p)))

    complete_against : Brought false → (v w : ℕ) → Leads es false (λ u. has (get_or passes u 0) k) v w → T (has (handed gives passes s w) k) → T (has (get_or s v 0) k)
    complete_against brought v w (last e) h = brought e.place v w e.listed e.enters e.leaves h
    complete_against brought v w (next {u} e p t) h =
        complete_against brought v u t ((handed_iff u k).1 (inr (brought e.place u w e.listed e.enters e.leaves h, p)))

    complete : (along : Bool) → Brought along → (v w : ℕ) → Leads es along (λ u. has (get_or passes u 0) k) v w → T (has (handed gives passes s w) k) → T (has (get_or s v 0) k)
    complete true brought v w t h = complete_along brought v w t h
    complete false brought v w t h = complete_against brought v w t h

module _ (es : List ℕ) (along : Bool) (gives passes : List ℕ) {order : List ℕ} (ord : Order (edge_count es) order) where
  -- edge i taken, the first j edges of a round taken, a whole round, and r rounds over the empty sets of n vertices
  abbrev taken : List ℕ → ℕ → List ℕ
  taken s i = relaxed es along gives passes s i

  abbrev part : List ℕ → ℕ → List ℕ
  part s j = swept (relaxed es along gives passes) order along s j

  abbrev round : List ℕ → List ℕ
  round s = part s (length order)

  abbrev pub after : ℕ → ℕ → List ℕ
  after n r = rounds (relaxed es along gives passes) order along (replicate n 0) r

  -- ---- sizes

  part_length : (s : List ℕ) (j : ℕ) → j ≤ length order → length (part s j) ≡ length s
  part_length s = swept_keeps ord along (relaxed es along gives passes) (λ t. length t ≡ length s) (λ t i h e. simp length-set e) s refl

  -- there is a set for each vertex
  pub after-length : (n r : ℕ) → length (after n r) ≡ n
  after-length n =
      rounds_keeps ord along (relaxed es along gives passes) (λ t. length t ≡ n) (λ t i h e. simp length-set e) (replicate n 0) (length-replicate n 0)

  -- sets of any width stay within it
  pub after_fits : (w n r : ℕ) → ((u : ℕ) → get_or gives u 0 < 2 ^ w) → (u : ℕ) → get_or (after n r) u 0 < 2 ^ w
  after_fits w n r small =
      rounds_keeps ord along (relaxed es along gives passes) (λ s. (u : ℕ) → get_or s u 0 < 2 ^ w)
      (λ s i _ h u. at_set (λ v x. x < 2 ^ w) s _ _ u (or_lt w _ _ (h _) (or_lt w _ _ (small _) (lt_of_le_of_lt (and_le_l _ _) (h (far es along i))))) (h u))
      (replicate n 0) (λ u. simp zeros_at (pow_pos w)) r

  -- ---- soundness: every member has a path

  abbrev AllFound : List ℕ → Type 0
  AllFound s = (v k : ℕ) → T (has (get_or s v 0) k) → InSet es along gives passes v k

  -- what the far end hands on has a path from the near end
  found_handed : (s : List ℕ) → AllFound s → (i k : ℕ) → i < edge_count es → T (has (handed gives passes s (far es along i)) k) → InSet es along gives passes (near es along i) k
  found_handed s ih i k l h =
      let p : ℕ → Bool = λ u. has (get_or passes u 0) k in
      ⊎_elim
      (λ g. record { place = far es along i; way = leads_one es p i l along; met = g })
      (λ g. let o = ih (far es along i) k g.0 in record { place = o.place; way = leads_more es p i l along o.place g.1 o.way; met = o.met })
      ((handed_iff gives passes s (far es along i) k).0 h)

  found : (n r : ℕ) → AllFound (after n r)
  found n =
      rounds_keeps ord along (relaxed es along gives passes) AllFound
      (λ s i l ih v k. at_set (λ u m. T (has m k) → InSet es along gives passes u k) s _ _ v (λ h. ⊎_elim (ih _ k) (found_handed s ih i k l) ((member_or _ _ k Iff.rfl Iff.rfl).0 h)) (ih v k))
      (replicate n 0) (λ v k. simp (zeros_at, has_zero) (λ h. absurd h))

  -- ---- lanes: each is closed after as many rounds as vertices

  module _ (k : ℕ) where
    -- the lane; what the set of v holds in it; 1 if edge i is about to bring k, else 0; no edge is about to
    abbrev lane : List ℕ → List ℕ
    lane s = map (λ (m : ℕ). bit m k) s

    abbrev held : List ℕ → ℕ → ℕ
    held s v = bit (get_or s v 0) k

    abbrev gap : List ℕ → ℕ → ℕ
    gap s i = bit (handed gives passes s (far es along i)) k - held s (near es along i)

    abbrev Closed : List ℕ → Type 0
    Closed s = (i : ℕ) → i < edge_count es → gap s i ≡ 0

    -- what is held, and the gap, depend on the lane alone
    held_same : (s t : List ℕ) → lane s ≡ lane t → (v : ℕ) → held s v ≡ held t v
    held_same s t e v = sym (get_or-map (λ (m : ℕ). bit m k) s v 0) ∙ ap (λ (l : List ℕ). get_or l v (bit 0 k)) e ∙ get_or-map (λ (m : ℕ). bit m k) t v 0

    abbrev gap_of : ℕ → ℕ → ℕ → ℕ
    gap_of u x y = max (bit (get_or gives u 0) k) (min x (bit (get_or passes u 0) k)) - y

    gap_is : (s : List ℕ) (i : ℕ) → gap s i ≡ gap_of (far es along i) (held s (far es along i)) (held s (near es along i))
    gap_is s i = ap (λ (x : ℕ). x - held s (near es along i)) (bit_or_lem _ _ k ∙ ap (max (bit (get_or gives (far es along i) 0) k)) (bit_and_lem _ _ k))

    gap_same : (s t : List ℕ) → lane s ≡ lane t → (i : ℕ) → gap s i ≡ gap t i
    gap_same s t e i = gap_is s i ∙ ap₂ (gap_of (far es along i)) (held_same s t e (far es along i)) (held_same s t e (near es along i)) ∙ sym (gap_is t i)

    -- an edge raises the number of ones by the gap, and where there is none, leaves the lane as it is
    ones_relaxed : (s : List ℕ) (i : ℕ) → near es along i < length s → ones k (taken s i) ≡ ones k s + gap s i
    ones_relaxed s i l =
        let a = get_or s (near es along i) 0 in
        let b = handed gives passes s (far es along i) in
        omega (arith, ones_set k s (near es along i) (bit_or a b) l, or_gap a b k)

    lane_relaxed : (s : List ℕ) (i : ℕ) → gap s i ≡ 0 → lane (taken s i) ≡ lane s
    lane_relaxed s i e =
        let a = get_or s (near es along i) 0 in
        let b = handed gives passes s (far es along i) in
        map-set_same (λ (m : ℕ). bit m k) s (near es along i) (bit_or a b) 0 (omega (arith, or_gap a b k))

    -- a closed lane holds what an edge brings
    brought : (s : List ℕ) → Closed s → Brought gives passes s es k along
    brought s closed i v w l e f h =
        subst (λ (x : ℕ). T (has (get_or s x 0) k)) e
        ((member_iff _ k).1
        (omega (arith, bit_lt (get_or s (near es along i) 0) k, closed i l, (member_iff _ k).0 (subst (λ (x : ℕ). T (has (handed gives passes s x) k)) (sym f) h))))

    module _ (n : ℕ) (ends : Ends es n) where
      -- the first j edges left the lane as it was, and none was about to bring k; or they raised the number of ones, and some edge was about to
      abbrev Calm : List ℕ → ℕ → Type 0
      Calm s j = (lane (part s j) ≡ lane s) × (ones k (part s j) ≡ ones k s) × ((i : ℕ) → i < j → gap s (turn order along i) ≡ 0)

      abbrev Raised : List ℕ → ℕ → Type 0
      Raised s j = (ones k s < ones k (part s j)) × (Closed s → ⊥)

      sweep : (s : List ℕ) → length s ≡ n → (j : ℕ) → j ≤ length order → Calm s j ⊎ Raised s j
      unfolding swept
      sweep s e zero l = inl (refl, refl, λ i h. absurd (omega arith))
      sweep s e (suc j) l = ⊎_elim (λ c. calm c (gap t g) refl) (λ r. inr (omega (arith, more, r.0), r.1)) (sweep s e j (le_of_lt l))
        where
          t : List ℕ
          t = part s j

          g : ℕ
          g = turn order along j

          more : ones k (taken t g) ≡ ones k t + gap t g
          more = ones_relaxed t g (omega (arith, part_length s j (le_of_lt l), near_lt ends along g (turn_lt ord along j l)))

          calm : Calm s j → (d : ℕ) → gap t g ≡ d → Calm s (suc j) ⊎ Raised s (suc j)
          calm c zero q =
              inl (
                lane_relaxed t g q ∙ c.0,
                omega (arith, more, c.1),
                λ i h. ⊎_elim (λ now. subst (λ (x : ℕ). gap s (turn order along x) ≡ 0) (sym now) (sym (gap_same t s c.0 g) ∙ q)) (c.2 i) (eq-or-lt_of_le (le_of_suc-le-suc h)),
              )
          calm c (suc d) q = inr (omega (arith, more, c.1), λ closed. omega (arith, closed g (turn_lt ord along j l), gap_same t s c.0 g))

      -- a whole round that left the lane as it was
      calm_closed : (s : List ℕ) → Calm s (length order) → Closed s
      calm_closed s c i h = subst (λ (x : ℕ). gap s x ≡ 0) (turn_when ord along i h) (c.2 (when ord along i h) (when_lt ord along i h))

      -- after r rounds the lane is closed or has r ones
      progress : (r : ℕ) → Closed (after n r) ⊎ (r ≤ ones k (after n r))
      unfolding rounds
      progress zero = inr zero-le
      progress (suc r) = ⊎_elim
          (λ c. inl (λ i h. gap_same (round s) s c.0 i ∙ calm_closed s c i h))
          (λ d. ⊎_elim (λ closed. absurd (d.1 closed)) (λ few. inr (omega (arith, d.0))) (progress r))
          (sweep s (after-length n r) (length order) (le_refl (length order)))
        where
          s : List ℕ
          s = after n r

      -- with a one for each vertex it is closed too
      closed : Closed (after n n)
      closed = ⊎_elim (λ c. c)
          (λ all i h. omega (
            arith,
            bit_lt (handed gives passes (after n n) (far es along i)) k,
            ones_all k (after n n) (omega (arith, after-length n n)) (near es along i) (omega (arith, after-length n n, near_lt ends along i h)),
          ))
          (progress n)

  module _ (n : ℕ) (ends : Ends es n) where
    -- the set of v holds k exactly if a path of one edge or more from v, through vertices that pass k, arrives at a vertex that gives k
    exactly : (v k : ℕ) → T (has (get_or (after n n) v 0) k) ↔ InSet es along gives passes v k
    exactly v k =
        let s = after n n in (
          found n n v k,
          λ h. complete gives passes s es k along (brought k s (closed k n ends)) v h.place h.way ((handed_iff gives passes s h.place k).1 (inl h.met)),
        )

    -- closed sets stay as they are
    still : (s : List ℕ) → ((k : ℕ) → Closed k s) → round s ≡ s
    still s closed =
        swept_keeps ord along (relaxed es along gives passes) (λ t. t ≡ s)
        (λ t i l e. ap (λ (x : List ℕ). taken x i) e ∙ ap (set s (near es along i)) (or_subset _ _ (λ k. closed k i l)) ∙ set-get_or s (near es along i) 0)
        s refl (length order) (le_refl (length order))

    -- further rounds alter no set
    further : (r : ℕ) → n ≤ r → after n r ≡ after n n
    unfolding rounds
    further = le_ind (λ r. after n r ≡ after n n) refl (λ r h e. ap round e ∙ still (after n n) (λ k. closed k n ends))

-- ---- the theorems

module _ (es : List ℕ) (along : Bool) (gives passes : List ℕ) where
  solution-length : (n : ℕ) → length (solution es along gives passes n) ≡ n
  unfolding solution
  solution-length n = after-length es along gives passes (natural_order (edge_count es)) n n

  -- sets of any width stay within it
  pub solution_fits : (w n : ℕ) → ((u : ℕ) → get_or gives u 0 < 2 ^ w) → (u : ℕ) → get_or (solution es along gives passes n) u 0 < 2 ^ w
  unfolding solution
  solution_fits w n = after_fits es along gives passes (natural_order (edge_count es)) w n n

  module _ (n : ℕ) (ends : Ends es n) where
    -- the set of v holds k exactly if a path of one edge or more from v, through vertices that pass k, arrives at a vertex that gives k
    pub exact : (v k : ℕ) → T (has (get_or (solution es along gives passes n) v 0) k) ↔ InSet es along gives passes v k
    unfolding solution
    exact = exactly es along gives passes (natural_order (edge_count es)) n ends

    -- in any order of the edges, as many rounds as vertices or more give the same sets
    module _ {order : List ℕ} (ord : Order (edge_count es) order) where
      pub ends_alike : (r : ℕ) → n ≤ r → after es along gives passes ord n r ≡ solution es along gives passes n
      ends_alike r h =
          further es along gives passes ord n ends r h
          ∙ ext_get_or 0 _ _ (after-length es along gives passes ord n n ∙ sym (solution-length n))
          (λ v l. alike _ _
          (λ k h. (exact v k).1 ((exactly es along gives passes ord n ends v k).0 h))
          (λ k h. (exactly es along gives passes ord n ends v k).1 ((exact v k).0 h)))
