-- A buffer that is filled from its front: the part behind what has been written is lent to a callee, which writes the next bytes there.
-- Assumes nothing.
use mathlib.Core.Path.{◌≡◌, refl, sym, ap, ap₂, ◌∙◌}
use mathlib.Core.List.{List, [], ◌∷◌, ◌++◌}
use mathlib.Core.Logic.{⊎_elim}
use Prim.Native.Nat.{ℕ, ◌+◌, ◌-◌, ◌≤◌, ◌<◌}
use native.Mathlib.Nat.{eq-or-lt_of_le, le_antisymm}
use native.Mathlib.Omega.{arith}
use lib.ListN.{length, set, take, drop, length-append, length-take, length-drop}
use Rattle.words.specs.Tables.{rows, wrote}
use Rattle.words.proofs.Tables.{rows_fit, rows_more, table-length}
use Rattle.words.proofs.Written.{wrote-length, part_from, write_more, write_one}

-- `done` stands at the front of `out`, which held `old`
pub record Front (old done out : List ℕ) : Type 0 where
  pub is : out ≡ wrote old done

module _ {old done out : List ℕ} (f : Front old done out) where
  -- the part behind it
  module _ {at : ℕ} (here : at ≡ length done) where
    pub starts : at ≤ length old → at ≤ length out
    starts room = omega (arith, wrote-length old done f.is (omega arith))

    pub lends : {m : ℕ} → at + m ≤ length old → m ≤ length (part_from out at)
    lends room = simp (length-take, length-drop) (omega (arith, wrote-length old done f.is (omega arith)))

    pub more : (r : List ℕ) {ys : List ℕ} → ys ≡ wrote (part_from out at) r
        → Front old (done ++ r) (take at out ++ (ys ++ drop (length out - at) (drop at out)))
    more r {ys} e = record { is = write_more old done out r ys at here f.is e }

-- a loop that writes n rows: i of them stand at the front
pub record Filled (row : ℕ → List ℕ) (n : ℕ) (old : List ℕ) (i : ℕ) (out : List ℕ) : Type 0 where
  pub within : i ≤ n
  pub room : length (rows row n) ≤ length old
  pub front : Front old (rows row i) out

pub begin : (row : ℕ → List ℕ) (n : ℕ) (old : List ℕ) → length (rows row n) ≤ length old → Filled row n old 0 old
unfolding rows
begin row n old room = record { within = omega arith; room = room; front = record { is = refl } }

module _ {row : ℕ → List ℕ} {n : ℕ} {old : List ℕ} {i : ℕ} {out : List ℕ} (f : Filled row n old i out) where
  pub buffer_length : length out ≡ length old
  buffer_length =
      wrote-length old (rows row i) f.front.is (⊎_elim
      (λ (e : i ≡ n). omega (arith, ap (λ (j : ℕ). length (rows row j)) e, f.room))
      (λ (l : i < n). omega (arith, rows_fit row n i l, f.room))
      (eq-or-lt_of_le f.within))

  pub end : n ≤ i → out ≡ wrote old (rows row n)
  end h = f.front.is ∙ ap (λ (j : ℕ). wrote old (rows row j)) (le_antisymm f.within h)

  -- row i is to stand at `at`
  module _ {at : ℕ} (here : at ≡ length (rows row i)) where
    pub row_room : i < n → at + length (row i) ≤ length old
    row_room h = omega (arith, rows_fit row n i h, f.room)

    pub lies : i < n → at ≤ length out
    lies h = starts f.front here (omega (arith, row_room h))

    pub lent : i < n → length (row i) ≤ length (part_from out at)
    lent h = lends f.front here (row_room h)

    pub next_row : i < n → {ys : List ℕ} → ys ≡ wrote (part_from out at) (row i)
        → Filled row n old (i + 1) (take at out ++ (ys ++ drop (length out - at) (drop at out)))
    next_row h e = record {
      within = omega arith;
      room = f.room;
      front = record { is = (more f.front here (row i) e).is ∙ ap (wrote old) (rows_more row i) };
    }

    -- m bytes on, row i + 1 is to stand
    pub onward : {m : ℕ} → m ≡ length (row i) → at + m ≡ length (rows row (i + 1))
    onward e = omega (arith, length-append (rows row i) (row i), ap length (rows_more row i))

    pub all : n ≤ i → at ≡ length (rows row n)
    all h = here ∙ ap (λ (j : ℕ). length (rows row j)) (le_antisymm f.within h)

  -- all rows stand inside the buffer
  pub lies_all : {at : ℕ} → at ≡ length (rows row n) → at ≤ length out
  lies_all e = omega (arith, buffer_length, f.room)

-- a loop that writes a row: one more byte
pub next_byte : {f : ℕ → ℕ} {n : ℕ} {old : List ℕ} {i : ℕ} {out : List ℕ} → Filled (λ j. f j ∷ []) n old i out → i < n → {b : ℕ} → b ≡ f i
    → Filled (λ j. f j ∷ []) n old (i + 1) (set out i b)
next_byte {f} {n} {old} {i} {out} t h {b} e = record {
  within = omega arith;
  room = t.room;
  front = record {
    is =
        ap₂ (λ (l : List ℕ) (x : ℕ). set l i x) t.front.is e
        ∙ write_one old (rows (λ j. f j ∷ []) i) (f i) i (sym (table-length f i)) (omega (arith, t.room, table-length f n))
        ∙ ap (wrote old) (rows_more (λ j. f j ∷ []) i);
  };
}
