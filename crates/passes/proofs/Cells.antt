-- Laws of tables with a column for each array; what the solver is lent.
-- Assumes nothing.
use mathlib.Core.Path.{◌≡◌, refl, sym, ap, subst, ◌∙◌}
use mathlib.Core.Bool.{Bool, cond}
use mathlib.Core.List.{List}
use Prim.Native.Nat.{ℕ, ◌+◌, ◌*◌, ◌≤◌, ◌<◌}
use native.Mathlib.Omega.{arith}
use borrow.Author.Tests.{ne_eqb}
use lib.Dec.{eqb}
use lib.ListN.{length}
use Rattle.flow.specs.Cells.{NoneBeyond}
use Rattle.flow.specs.Solver.{row_count, Ends, Tables, Solved}
use Rattle.flow.proofs.Cells.{in_cells, cells_table, cells_row, none_table, none_row, rows_to, rows_none, rows_next, rows_all}
use Rattle.routine.specs.Actions.{action}
use Rattle.routine.specs.Layout.{arrays, vertices, entry, exit}
use Rattle.routine.specs.Reader.{WellFormed}
use Rattle.routine.specs.declared.action.Action.{Action}
use Rattle.words.specs.Tables.{table, with_row}
use Rattle.words.proofs.Tests.{at_cond}
use Rattle.labels.specs.Events.{event}
use Rattle.labels.proofs.Rules.Events.{inner_event}
use Rattle.passes.specs.Tables.{Cells, CellsAlone}

-- a table with nothing beyond the arrays is one
pub cells_are : {file : List ℕ} {f : ℕ → ℕ → ℕ} {s : List ℕ} → CellsAlone file f s → Cells file f s
cells_are h = record { size = h.size; cells = h.cells }

module _ {file : List ℕ} (well : WellFormed file) where
  -- a column for each array
  pub few_columns : arrays file ≤ 8
  few_columns = well.laid.limits.few_arrays

  pub in_eight : {a : ℕ} → a < arrays file → a < 8
  in_eight h = omega (arith, few_columns)

  -- a table that was filled cell by cell, with nothing beyond the arrays
  pub alone_table : (F : ℕ → ℕ) {f : ℕ → ℕ → ℕ} {s : List ℕ} {k : ℕ} → k ≡ 8 * vertices file → s ≡ table F k
      → ((a v : ℕ) → a < arrays file → v < vertices file → F (8 * v + a) ≡ f a v)
      → ((a v : ℕ) → arrays file ≤ a → a < 8 → v < vertices file → F (8 * v + a) ≡ 0) → CellsAlone file f s
  alone_table F size e h none =
      let c = cells_table few_columns F size e h in
      record { size = c.size; cells = c.cells; beyond = none_table few_columns F size e none }

  -- a row of it replaced
  pub alone_row : {f g : ℕ → ℕ → ℕ} (r : ℕ → ℕ) {s : List ℕ} (w : ℕ) → w < vertices file → CellsAlone file f s
      → ((a : ℕ) → a < arrays file → r a ≡ g a w) → ((a v : ℕ) → a < arrays file → (v ≡ w → ⊥) → f a v ≡ g a v)
      → CellsAlone file g (with_row s w r (arrays file))
  alone_row r w in-w h new old =
      let c = cells_row few_columns r w in-w (cells_are h) new old in
      record { size = c.size; cells = c.cells; beyond = none_row few_columns r w h.beyond }

  -- one that is filled row by row
  module _ (f : ℕ → ℕ → ℕ) (old : List ℕ) where
    pub rows_begin : length old ≡ 8 * vertices file → NoneBeyond (arrays file) (vertices file) old → CellsAlone file (rows_to f old 0) old
    rows_begin size none = let c = rows_none few_columns f old size in record { size = c.size; cells = c.cells; beyond = none }

    pub rows_further : {s t : List ℕ} (v : ℕ) → v < vertices file → CellsAlone file (rows_to f old v) s → t ≡ with_row s v (λ a. f a v) (arrays file)
        → CellsAlone file (rows_to f old (v + 1)) t
    rows_further v in_v h e =
        let c = rows_next few_columns f old v in_v (cells_are h) e in
        record {
          size = c.size;
          cells = c.cells;
          beyond = subst (NoneBeyond (arrays file) (vertices file)) (sym e) (none_row few_columns (λ a. f a v) v h.beyond);
        }

    pub rows_filled : {s : List ℕ} (v : ℕ) → vertices file ≤ v → CellsAlone file (rows_to f old v) s → CellsAlone file f s
    rows_filled v all h = let c = rows_all few_columns f old v all (cells_are h) in record { size = c.size; cells = c.cells; beyond = h.beyond }

  -- the actions of all vertices, and then the events of the entry and the exit
  pub cells_events : (f : Action → ℕ) {s t u : List ℕ} → CellsAlone file (λ a v. f (action file a v)) s → t ≡ with_row s entry (λ a. f (event file a entry)) (arrays file)
      → {w : ℕ} → w ≡ exit file → u ≡ with_row t w (λ a. f (event file a w)) (arrays file) → CellsAlone file (λ a v. f (event file a v)) u
  cells_events f {s} {t} h e last g =
      let two = well.laid.limits.two_vertices in
      subst (CellsAlone file (λ a v. f (event file a v))) (sym (g ∙ ap (λ (w : ℕ). with_row t w (λ a. f (event file a w)) (arrays file)) last))
      (alone_row (λ a. f (event file a (exit file))) (exit file) (omega arith)
      (subst (CellsAlone file (λ a v. cond (eqb v (exit file)) (f (action file a v)) (f (event file a v)))) (sym e)
      (alone_row (λ a. f (event file a entry)) entry (omega arith) h
      (λ a in_a. ap (λ (b : Bool). cond b (f (action file a entry)) (f (event file a entry))) (sym (ne_eqb entry (exit file) (λ q. omega arith))))
      (λ a v in_a other.
      at_cond (λ (x : ℕ). f (action file a v) ≡ x) (eqb v (exit file)) (λ _. refl)
      (λ q. ap f (sym (inner_event file a v (ne_eqb v entry other) q))))))
      (λ a in_a. refl)
      (λ a v in_a other. ap (λ (b : Bool). cond b (f (action file a v)) (f (event file a v))) (ne_eqb v (exit file) other)))

  -- a cell's place is small, and lies in a table of all vertices
  module _ {a v : ℕ} (in_a : a < arrays file) (in_v : v < vertices file) where
    pub few_cells : 8 * v + a < 2048
    few_cells = omega (arith, in_cells few_columns in_a in_v, well.laid.limits.few_vertices)

    pub in_table : (s : List ℕ) → length s ≡ 8 * vertices file → 8 * v + a < length s
    in_table s e = omega (arith, e, in_cells few_columns in_a in_v)

-- ---- what the solver is lent: edges among n vertices, and tables with a row for each

module _ {n : ℕ} (old : List ℕ) (size : length old ≡ 8 * n) where
  pub rows_are : row_count old ≡ n
  rows_are = omega arith

  module _ {es bytes : List ℕ} (lent : es ≡ bytes) where
    pub tables_lent : {gives passes : List ℕ} → Ends bytes n → length gives ≡ 8 * n → length passes ≡ 8 * n → Tables es gives passes old
    tables_lent ends Gives-size passes-size = record {
      ends = subst (Ends es) (sym rows_are) (subst (λ (e : List ℕ). Ends e n) (sym lent) ends);
      whole = size ∙ ap (λ (k : ℕ). 8 * k) (sym rows_are);
      gives_all = Gives-size ∙ sym size;
      passes_all = passes-size ∙ sym size;
    }

    pub solved_over : {order gives passes after : List ℕ} {along : Bool} {r : ℕ} → Solved es order along gives passes (row_count old) r after
        → Solved bytes order along gives passes n r after
    solved_over {order} {gives} {passes} {after} {along} {r} h =
        subst (λ (k : ℕ). Solved bytes order along gives passes k r after) rows_are
        (subst (λ (e : List ℕ). Solved e order along gives passes (row_count old) r after) lent h)
