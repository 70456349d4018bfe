-- The vertices of the expanded routine: how many there are, where each stands, and what stands at each place.
-- Assumes nothing.
use mathlib.Core.Path.{◌≡◌, refl, sym, ap, subst, ◌∙◌}
use mathlib.Core.Bool.{Bool, true, false, cond}
use mathlib.Core.List.{List, [], ◌∷◌}
use Prim.Native.Nat.{ℕ, zero, suc, ◌+◌, ◌-◌, ◌*◌, ◌≤◌, ◌<◌}
use native.Mathlib.Decide.{dec_lt}
use native.Mathlib.Nat.{add-zero}
use native.Mathlib.Omega.{arith}
use borrow.Author.Count.{below_more}
use lib.Dec.{lit<}
use lib.ListN.{length, get_or, length-append, get_or-append, get_or-eq_default}
use lib.Seq.{get_or-append-add}
use Rattle.routine.specs.Layout.{vertices}
use Rattle.words.proofs.Sums.{count_few}
use Rattle.words.specs.Sums.{total, count_of}
use Rattle.words.specs.Tables.{rows}
use Rattle.calls.specs.Calls.{is_call_row}
use Rattle.calls.specs.Parts.{Part, plain, passing, calling, returning, beyond, parts_of, parts, expanded_vertices, part_at, first_vertex_of, last_of}

added_twice : (b : Bool) → ◌≡◌ {A = ℕ} (cond b 2 0) (2 * cond b 1 0)
added_twice true = refl
added_twice false = refl

module _ (file : List ℕ) where
  -- what a call adds
  abbrev added : ℕ → ℕ
  added v = cond (is_call_row file v) 2 0

  -- ---- how many there are

  parts_size : (v : ℕ) → length (parts_of file v) ≡ 1 + added v
  parts_size v = go (is_call_row file v)
    where
      go : (b : Bool) → length (cond b (passing v ∷ calling v ∷ returning v ∷ []) (plain v ∷ [])) ≡ 1 + cond b 2 0
      go true = refl
      go false = refl

  pub first_zero : first_vertex_of file 0 ≡ 0
  unfolding first_vertex_of parts rows
  first_zero = refl

  pub first_parts : (v : ℕ) → first_vertex_of file (suc v) ≡ first_vertex_of file v + length (parts_of file v)
  unfolding first_vertex_of parts rows
  first_parts v = length-append (parts file v) (parts_of file v)

  -- the last of those that v becomes stands before the first of the next
  pub first_next : (v : ℕ) → first_vertex_of file (suc v) ≡ last_of file v + 1
  unfolding last_of
  first_next v = omega (arith, first_parts v, parts_size v)

  last_is : (v : ℕ) → last_of file v ≡ first_vertex_of file v + added v
  unfolding last_of
  last_is v = refl

  pub first_last : (v : ℕ) → first_vertex_of file v ≤ last_of file v
  first_last v = omega (arith, last_is v)

  pub call_last : (v : ℕ) → is_call_row file v ≡ true → last_of file v ≡ first_vertex_of file v + 2
  call_last v call = rw call at (last_is v)

  pub plain_last : (v : ℕ) → is_call_row file v ≡ false → last_of file v ≡ first_vertex_of file v
  plain_last v row = (rw row at (last_is v)) ∙ add-zero (first_vertex_of file v)

  pub size_is : expanded_vertices file ≡ first_vertex_of file (vertices file)
  unfolding expanded_vertices first_vertex_of
  size_is = refl

  -- two more for each call
  pub size-count : (n : ℕ) → first_vertex_of file n ≡ n + 2 * count_of (is_call_row file) n
  unfolding total
  size-count zero = first_zero
  size-count (suc n) = omega (arith, first_next n, last_is n, size-count n, added_twice (is_call_row file n))

  -- at most three of each
  pub first_few : (n : ℕ) → first_vertex_of file n ≤ 3 * n
  first_few n = omega (arith, size-count n, count_few (is_call_row file) n)

  -- v before n: all that v becomes stands before the first of n
  pub last_below : (n v : ℕ) → v < n → last_of file v < first_vertex_of file n
  last_below zero v h = absurd (omega arith)
  last_below (suc n) v h =
      below_more (λ u. last_of file u < first_vertex_of file (suc n)) n
      (λ u l. omega (arith, last_below n u l, first_next n, last_is n))
      (omega (arith, first_next n))
      v (omega arith)

  pub first_rises : (n v : ℕ) → v < n → first_vertex_of file v < first_vertex_of file n
  first_rises n v h = omega (arith, last_below n v h, last_is v)

  -- ---- what stands at a place, of those that the first n vertices of the file become

  abbrev pub Stands : ℕ → ℕ → Part → Type 0
  Stands n x (plain v) = (v < n) × (is_call_row file v ≡ false) × (x ≡ first_vertex_of file v)
  Stands n x (passing v) = (v < n) × (is_call_row file v ≡ true) × (x ≡ first_vertex_of file v)
  Stands n x (calling v) = (v < n) × (is_call_row file v ≡ true) × (x ≡ first_vertex_of file v + 1)
  Stands n x (returning v) = (v < n) × (is_call_row file v ≡ true) × (x ≡ first_vertex_of file v + 2)
  Stands n x beyond = first_vertex_of file n ≤ x

  stands_more : (n x : ℕ) (p : Part) → x < first_vertex_of file n → Stands n x p → Stands (suc n) x p
  stands_more n x (plain v) l s = (omega (arith, s.0), s.1, s.2)
  stands_more n x (passing v) l s = (omega (arith, s.0), s.1, s.2)
  stands_more n x (calling v) l s = (omega (arith, s.0), s.1, s.2)
  stands_more n x (returning v) l s = (omega (arith, s.0), s.1, s.2)
  stands_more n x beyond l s = absurd (omega arith)

  -- the j-th of those that v becomes
  stands_new : (v j : ℕ) (b : Bool) → is_call_row file v ≡ b
      → let new = cond b (passing v ∷ calling v ∷ returning v ∷ []) (plain v ∷ []) in
      j < length new → Stands (suc v) (first_vertex_of file v + j) (get_or new j beyond)
  stands_new v zero true e h = (omega arith, e, omega arith)
  stands_new v (suc zero) true e h = (omega arith, e, refl)
  stands_new v (suc (suc zero)) true e h = (omega arith, e, refl)
  stands_new v (suc (suc (suc j))) true e h = absurd (omega arith)
  stands_new v zero false e h = (omega arith, e, omega arith)
  stands_new v (suc j) false e h = absurd (omega arith)

  old_part : (n x : ℕ) → x < first_vertex_of file n → get_or (parts file (suc n)) x beyond ≡ get_or (parts file n) x beyond
  unfolding parts rows first_vertex_of
  old_part n x l = get_or-append (parts file n) (parts_of file n) beyond x l

  new_part : (n j : ℕ) → get_or (parts file (suc n)) (first_vertex_of file n + j) beyond ≡ get_or (parts_of file n) j beyond
  unfolding parts rows first_vertex_of
  new_part n j = get_or-append-add (parts file n) (parts_of file n) j beyond

  no_part : (n x : ℕ) → first_vertex_of file n ≤ x → get_or (parts file n) x beyond ≡ beyond
  unfolding first_vertex_of
  no_part n x h = get_or-eq_default (parts file n) beyond h

  stands : (n x : ℕ) → Stands n x (get_or (parts file n) x beyond)
  stands zero x = let z : first_vertex_of file 0 ≤ x = omega (arith, first_zero) in rw (no_part 0 x z) z
  stands (suc n) x = elim (dec_lt x (first_vertex_of file n)) [
    | yes l ↦ rw (old_part n x l) (stands_more n x (get_or (parts file n) x beyond) l (stands n x))
    | no f ↦ elim (dec_lt x (first_vertex_of file (suc n))) [
      | yes l ↦
          (let j = x - first_vertex_of file n in
          let e : first_vertex_of file n + j ≡ x = omega arith in
          subst (λ (y : ℕ). Stands (suc n) y (get_or (parts file (suc n)) y beyond)) e
          (rw (new_part n j) (stands_new n j (is_call_row file n) refl (omega (arith, first_parts n)))))
      | no g ↦ (let h : first_vertex_of file (suc n) ≤ x = omega arith in rw (no_part (suc n) x h) h)
    ]
  ]

  pub standing : (x : ℕ) {p : Part} → part_at file x ≡ p → Stands (vertices file) x p
  unfolding part_at
  standing x e = subst (Stands (vertices file) x) e (stands (vertices file) x)

  -- ---- where each stands

  part_at_lem : (n v j : ℕ) → v < n → j < length (parts_of file v) → get_or (parts file n) (first_vertex_of file v + j) beyond ≡ get_or (parts_of file v) j beyond
  part_at_lem zero v j h l = absurd (omega arith)
  part_at_lem (suc n) v j h l =
      below_more (λ u. j < length (parts_of file u) → get_or (parts file (suc n)) (first_vertex_of file u + j) beyond ≡ get_or (parts_of file u) j beyond) n
      (λ u g m. old_part n (first_vertex_of file u + j) (omega (arith, last_below n u g, last_is u, parts_size u)) ∙ part_at_lem n u j g m)
      (λ m. new_part n j)
      v (omega arith) l

  module _ {v : ℕ} (in_v : v < vertices file) where
    pub plain_at : is_call_row file v ≡ false → part_at file (first_vertex_of file v) ≡ plain v
    unfolding part_at
    plain_at e =
        subst (λ (x : ℕ). get_or (parts file (vertices file)) x beyond ≡ plain v) (add-zero (first_vertex_of file v))
        (part_at_lem (vertices file) v 0 in_v (omega (arith, parts_size v)) ∙ rw e)

    module _ (call : is_call_row file v ≡ true) where
      call_at : (j : ℕ) → j < 3 → part_at file (first_vertex_of file v + j) ≡ get_or (passing v ∷ calling v ∷ returning v ∷ []) j beyond
      unfolding part_at
      call_at j l =
          let two : ◌≡◌ {A = ℕ} (cond (is_call_row file v) 2 0) 2 = rw call in
          part_at_lem (vertices file) v j in_v (omega (arith, parts_size v, two)) ∙ rw call

      pub passing_at : part_at file (first_vertex_of file v) ≡ passing v
      passing_at = ap (part_at file) (sym (add-zero (first_vertex_of file v))) ∙ call_at 0 (lit< tt)

      pub calling_at : part_at file (first_vertex_of file v + 1) ≡ calling v
      calling_at = call_at 1 (lit< tt)

      pub returning_at : part_at file (first_vertex_of file v + 2) ≡ returning v
      returning_at = call_at 2 (lit< tt)
