-- Laws of tables of eight columns, the cell of vertex v and column a at 8 v + a.
-- Assumes nothing.
use mathlib.Core.Path.{◌≡◌, refl, sym, ap, ap₂, subst, ◌∙◌}
use mathlib.Core.Bool.{Bool, cond}
use mathlib.Core.List.{List, [], ◌∷◌}
use Prim.Native.Nat.{ℕ, ◌+◌, ◌*◌, ◌≤◌, ◌<◌, zero-le}
use native.Mathlib.Decide.{ℕ_discrete}
use native.Mathlib.Omega.{arith}
use borrow.Author.Tests.{lt-ltb, le-ltb}
use lib.Dec.{ltb}
use lib.ListN.{length, get_or, replicate}
use Rattle.words.specs.Tables.{table, with_row}
use Rattle.words.proofs.Replaced.{replaced-length, replaced_other, replaced_at}
use Rattle.words.proofs.Tables.{table-length, table_at, rows_same, zeros_at}
use Rattle.words.proofs.Tests.{one_more}
use Rattle.flow.specs.Cells.{Cells, NoneBeyond, Pass}
use Rattle.flow.specs.Solver.{column, solution, Solved}

-- of a table that is filled row by row: the rows below v are those of f, the others as they were
abbrev pub rows_to : (ℕ → ℕ → ℕ) → List ℕ → ℕ → ℕ → ℕ → ℕ
rows_to f old v a u = cond (ltb u v) (f a u) (get_or old (8 * u + a) 0)

-- m columns of n vertices
module _ {m n : ℕ} (few : m ≤ 8) where
  pub in_cells : {a v : ℕ} → a < m → v < n → 8 * v + a < 8 * n
  in_cells h k = omega arith

  -- a table that was filled cell by cell
  pub cells_table : (F : ℕ → ℕ) {f : ℕ → ℕ → ℕ} {s : List ℕ} {k : ℕ} → k ≡ 8 * n → s ≡ table F k
      → ((a v : ℕ) → a < m → v < n → F (8 * v + a) ≡ f a v) → Cells m n f s
  cells_table F {f} {s} {k} size e h = record {
    size = ap length e ∙ table-length F k ∙ size;
    cells = λ a v in_a in_v.
        ap (λ (t : List ℕ). get_or t (8 * v + a) 0) e ∙ table_at F k (8 * v + a) (subst (λ (x : ℕ). 8 * v + a < x) (sym size) (in_cells in_a in_v)) ∙ h a v in_a in_v;
  }

  -- a row replaced
  pub cells_row : {f g : ℕ → ℕ → ℕ} (r : ℕ → ℕ) {s : List ℕ} (w : ℕ) → w < n → Cells m n f s
      → ((a : ℕ) → a < m → r a ≡ g a w) → ((a v : ℕ) → a < m → (v ≡ w → ⊥) → f a v ≡ g a v)
      → Cells m n g (with_row s w r m)
  cells_row {f} {g} r {s} w in-w h new old = record {
    size = replaced-length s (8 * w) r m ∙ h.size;
    cells = λ a v in_a in_v.
        elim (ℕ_discrete v w) [
          | yes e ↦ subst (λ (x : ℕ). get_or (with_row s w r m) (8 * x + a) 0 ≡ g a x) (sym e)
              (replaced_at s (8 * w) r 0 m a refl in_a (omega (arith, h.size)) ∙ new a in_a)
          | no e ↦ replaced_other s (8 * w) r 0 m (8 * v + a) (λ b in_b q. e (omega arith)) ∙ h.cells a v in_a in_v ∙ old a v in_a e
        ];
  }

  -- nothing in the columns from m on: empty sets; a table that was filled cell by cell; a row replaced
  pub none_cleared : {s : List ℕ} (k : ℕ) → s ≡ replicate k 0 → NoneBeyond m n s
  none_cleared k e = record { empty = λ a v _ _ _. ap (λ (t : List ℕ). get_or t (8 * v + a) 0) e ∙ zeros_at k (8 * v + a) }

  pub none_table : (F : ℕ → ℕ) {s : List ℕ} {k : ℕ} → k ≡ 8 * n → s ≡ table F k
      → ((a v : ℕ) → m ≤ a → a < 8 → v < n → F (8 * v + a) ≡ 0) → NoneBeyond m n s
  none_table F {k = k} size e h = record {
    empty = λ a v out col in_v. ap (λ (t : List ℕ). get_or t (8 * v + a) 0) e ∙ table_at F k (8 * v + a) (omega arith) ∙ h a v out col in_v;
  }

  pub none_row : (r : ℕ → ℕ) {s : List ℕ} (w : ℕ) → NoneBeyond m n s → NoneBeyond m n (with_row s w r m)
  none_row r {s} w h = record {
    empty = λ a v out col in_v. replaced_other s (8 * w) r 0 m (8 * v + a) (λ b in_b q. omega arith) ∙ h.empty a v out col in_v;
  }

  -- a table that is filled row by row
  module _ (f : ℕ → ℕ → ℕ) (old : List ℕ) where
    pub rows_none : length old ≡ 8 * n → Cells m n (rows_to f old 0) old
    rows_none size = record { size = size; cells = λ a v in_a in_v. ap (λ (b : Bool). cond b (f a v) (get_or old (8 * v + a) 0)) (sym (le-ltb v 0 zero-le)) }

    pub rows_next : {s t : List ℕ} (v : ℕ) → v < n → Cells m n (rows_to f old v) s → t ≡ with_row s v (λ a. f a v) m → Cells m n (rows_to f old (v + 1)) t
    rows_next v in_v h e =
        subst (Cells m n (rows_to f old (v + 1))) (sym e)
        (cells_row (λ a. f a v) v in_v h
        (λ a in_a. ap (λ (b : Bool). cond b (f a v) (get_or old (8 * v + a) 0)) (sym (lt-ltb v (v + 1) (omega arith))))
        (λ a u in_a other. ap (λ (b : Bool). cond b (f a u) (get_or old (8 * u + a) 0)) (one_more u v other)))

    pub rows_all : {s : List ℕ} (v : ℕ) → n ≤ v → Cells m n (rows_to f old v) s → Cells m n f s
    rows_all v all h = record {
      size = h.size;
      cells = λ a u in_a in_u. h.cells a u in_a in_u ∙ ap (λ (b : Bool). cond b (f a u) (get_or old (8 * u + a) 0)) (lt-ltb u v (omega arith));
    }

  -- a column of cells is the table of its numbers
  pub column_cells : {f : ℕ → ℕ → ℕ} {s : List ℕ} {a : ℕ} → a < m → Cells m n f s → column s n a ≡ table (f a) n
  column_cells h c = rows_same _ _ n (λ u in_u. ap (λ (x : ℕ). x ∷ []) (c.cells _ u h in_u))

  -- the sets that a pass leaves
  pub cells_solved : (G P : ℕ → ℕ → ℕ) {es gives passes sets : List ℕ} {along : Bool} → Cells m n G gives → Cells m n P passes → Pass es n along gives passes sets
      → Cells m n (λ a v. get_or (solution es along (table (G a) n) (table (P a) n) n) v 0) sets
  cells_solved G P {es} {gives} {passes} {sets} {along} g p h = record {
    size = h.size;
    cells = λ a v in_a in_v.
        sym (table_at (λ u. get_or sets (8 * u + a) 0) n v in_v)
        ∙ ap (λ (t : List ℕ). get_or t v 0) (h.solved a (omega arith) ∙ ap₂ (λ (x y : List ℕ). solution es along x y n) (column_cells in_a g) (column_cells in_a p));
  }

-- what the solver leaves is a pass
pub solved_pass : {es order : List ℕ} {along : Bool} {gives passes : List ℕ} {n r : ℕ} {sets : List ℕ} → Solved es order along gives passes n r sets
    → Pass es n along gives passes sets
solved_pass h = record { size = h.size; solved = h.sets }
