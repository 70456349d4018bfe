-- Laws of the cells: those of a file that 40 passes, what a pass leaves, what a redistribute leaves with one template more, and what 42 asks.
-- Assumes nothing.
use mathlib.Core.Path.{◌≡◌, refl, sym, ap, ap₂, subst, ◌∙◌}
use mathlib.Core.Bool.{Bool, true, false, cond, true≢false}
use mathlib.Core.List.{List}
use Prim.Native.Nat.{ℕ, suc, ◌+◌, ◌*◌, ◌≤◌, ◌<◌}
use native.Mathlib.Decide.{ℕ_discrete}
use native.Mathlib.Numerals.{add-one}
use native.Mathlib.Omega.{arith}
use borrow.Author.Tests.{lt-ltb, le-ltb, not-true, not-false}
use lib.Bits.{bit_or, or_zero_r}
use lib.Dec.{eqb}
use lib.ListN.{length, get_or, replicate, length-replicate}
use Rattle.words.specs.Sums.{any_below}
use Rattle.words.specs.Tables.{with_row}
use Rattle.words.proofs.Replaced.{replaced-length, replaced_other, replaced_at}
use Rattle.words.proofs.Sums.{each_fails}
use Rattle.words.proofs.Tables.{zeros_at}
use Rattle.words.proofs.Tests.{one_more}
use Rattle.sets.specs.Sets.{several}
use Rattle.flow.specs.Cells.{NoneBeyond, Pass}
use Rattle.flow.proofs.Cells.{rows_to, in_cells, cells_solved}
use Rattle.directives.specs.Directives.{directive}
use Rattle.directives.specs.Layout.{templates, arrays, vertices, edge_bytes}
use Rattle.directives.specs.Read.{ReadFile}
use Rattle.directives.specs.declared.vertex.Directive.{Directive}
use Rattle.directives.specs.declared.vertex.Directive.TheVariants.{Nothing, Realign, Redistribute}
use Rattle.mappings.specs.Computed.{changes, elsewhere, given_set, held_sets, left_by, left_set}
use Rattle.mappings.specs.Tables.{ArrayCells, Given}
use Rattle.mappings.proofs.Formed.{limits}
use Rattle.facts.proofs.Passing.{Passing, passing}
use Rattle.left.specs.Cells.{held_gives, held_passes, held_halves, redistributes_other, others_by, others_to, others_at}

-- ---- of a file that 40 passes

module _ (d : ReadFile) where
  -- a column for each array
  pub few_columns : arrays d.bytes ≤ 8
  few_columns = (limits d.bytes d.passed).few_arrays

  module _ {a v : ℕ} (in_a : a < arrays d.bytes) (in_v : v < vertices d.bytes) where
    pub few_cells : 8 * v + a < 2048
    few_cells = omega (arith, in_cells few_columns in_a in_v, (limits d.bytes d.passed).few_vertices)

    -- the cell is in a table of all vertices
    pub in_table : (s : List ℕ) → length s ≡ 8 * vertices d.bytes → 8 * v + a < length s
    in_table s e = omega (arith, e, in_cells few_columns in_a in_v)

-- ---- a pass over what each vertex gives and passes

-- by the versions that directives give
pub gives_held : (file : List ℕ) (t : ℕ) {given gives : List ℕ} → Given file given → ArrayCells file (λ a v. held_gives file t a v (get_or given (8 * v + a) 0)) gives
    → ArrayCells file (λ a v. held_gives file t a v (given_set file a v)) gives
gives_held file t g gs = record {
  size = gs.size;
  cells = λ a v in_a in_v. gs.cells a v in_a in_v ∙ ap (held_gives file t a v) (g.cells a v in_a in_v);
}

pub cells_held : (d : ReadFile) (t : ℕ) {gives passes held : List ℕ}
    → ArrayCells d.bytes (λ a v. held_gives d.bytes t a v (given_set d.bytes a v)) gives → ArrayCells d.bytes (held_passes d.bytes t) passes
    → Pass (edge_bytes d.bytes) (vertices d.bytes) false gives passes held → ArrayCells d.bytes (λ a v. get_or (held_sets d.bytes a t) v 0) held
unfolding held_sets held_gives held_passes
cells_held d t = cells_solved (few_columns d) (λ a v. held_gives d.bytes t a v (given_set d.bytes a v)) (held_passes d.bytes t)

-- what is passed of each half is passed of both
pub held_passing : (d : ReadFile) (t : ℕ) {s : List ℕ} → ArrayCells d.bytes (held_halves d.bytes t) s
    → NoneBeyond (arrays d.bytes) (vertices d.bytes) s → Passing (arrays d.bytes) (vertices d.bytes) (held_passes d.bytes t) s
unfolding held_halves held_passes
held_passing d t = passing (few_columns d) (λ a v. changes a t (directive d.bytes v))

-- ---- what a redistribute leaves

module _ (file : List ℕ) (a v : ℕ) where
  -- with no template
  nothing_by : (d : Directive) → 0 ≡ others_by file 0 a v d
  unfolding elsewhere
  nothing_by Nothing = refl
  nothing_by (Realign b x) = refl
  nothing_by (Redistribute s m) = refl

  -- with one more: where it is of another
  joins_by : (t : ℕ) (d : Directive) → redistributes_other t d ≡ true → bit_or (others_by file t a v d) (get_or (held_sets file a t) v 0) ≡ others_by file (suc t) a v d
  unfolding elsewhere
  joins_by t Nothing e = absurd (true≢false (sym e))
  joins_by t (Realign b x) e = absurd (true≢false (sym e))
  joins_by t (Redistribute s m) e = ap (λ (b : Bool). bit_or (elsewhere file a v s t) (cond b 0 (get_or (held_sets file a t) v 0))) (sym (not-true (eqb t s) e))

  -- and where it is not
  leaves_by : (t : ℕ) (d : Directive) → redistributes_other t d ≡ false → others_by file t a v d ≡ others_by file (suc t) a v d
  unfolding elsewhere
  leaves_by t Nothing e = refl
  leaves_by t (Realign b x) e = refl
  leaves_by t (Redistribute s m) e =
      sym (or_zero_r _) ∙ ap (λ (b : Bool). bit_or (elsewhere file a v s t) (cond b 0 (get_or (held_sets file a t) v 0))) (sym (not-false (eqb t s) e))

  -- with all
  all_by : (d : Directive) → others_by file (templates file) a v d ≡ left_by file a v d
  all_by Nothing = refl
  all_by (Realign b x) = refl
  all_by (Redistribute s m) = refl

  others_joined : (t : ℕ) → redistributes_other t (directive file v) ≡ true
      → bit_or (others_to file t a v) (get_or (held_sets file a t) v 0) ≡ others_to file (t + 1) a v
  unfolding others_to
  others_joined t e = joins_by t (directive file v) e ∙ ap (λ (n : ℕ). others_to file n a v) (sym (add-one t))

  others_left : (t : ℕ) → redistributes_other t (directive file v) ≡ false → others_to file t a v ≡ others_to file (t + 1) a v
  unfolding others_to
  others_left t e = leaves_by t (directive file v) e ∙ ap (λ (n : ℕ). others_to file n a v) (sym (add-one t))

module _ (file : List ℕ) where
  -- a table that was cleared
  pub others_none : (old : List ℕ) {s : List ℕ} → length old ≡ 8 * vertices file → s ≡ replicate (length old) 0 → ArrayCells file (others_to file 0) s
  unfolding others_to
  others_none old size e = record {
    size = ap length e ∙ length-replicate (length old) 0 ∙ size;
    cells = λ a v in_a in_v.
        ap (λ (l : List ℕ). get_or l (8 * v + a) 0) e ∙ zeros_at (length old) (8 * v + a) ∙ nothing_by file a v (directive file v);
  }

  -- no directive asks for template t
  pub others_unasked : (t : ℕ) {s : List ℕ} → any_below (λ v. redistributes_other t (directive file v)) (vertices file) ≡ false → ArrayCells file (others_to file t) s
      → ArrayCells file (others_to file (t + 1)) s
  others_unasked t none h = record {
    size = h.size;
    cells = λ a v in_a in_v. h.cells a v in_a in_v ∙ others_left file a v t (each_fails _ (vertices file) none v in_v);
  }

  pub others_all : {n : ℕ} {s : List ℕ} → n ≡ templates file → ArrayCells file (others_to file n) s → ArrayCells file (others_at file) s
  unfolding others_to others_at
  others_all {n} e h = record {
    size = h.size;
    cells = λ a v in_a in_v. h.cells a v in_a in_v ∙ ap (λ (k : ℕ). others_to file k a v) e ∙ all_by file a v (directive file v);
  }

-- ---- rows joined one after the other

module _ (d : ReadFile) (t : ℕ) {held old s : List ℕ}
    (brought : ArrayCells d.bytes (λ a v. get_or (held_sets d.bytes a t) v 0) held) (were : ArrayCells d.bytes (others_to d.bytes t) old)
    (v : ℕ) (in_v : v < vertices d.bytes) (so_far : ArrayCells d.bytes (rows_to (others_to d.bytes (t + 1)) old v) s) where
  -- the row of v, which is as it was
  row_was : (a : ℕ) → a < arrays d.bytes → get_or s (8 * v + a) 0 ≡ others_to d.bytes t a v
  row_was a in_a =
      so_far.cells a v in_a in_v
      ∙ ap (λ (b : Bool). cond b (others_to d.bytes (t + 1) a v) (get_or old (8 * v + a) 0)) (le-ltb v v (omega arith))
      ∙ were.cells a v in_a in_v

  -- one row more
  row_next : {u : List ℕ} → length u ≡ length s → ((a : ℕ) → a < arrays d.bytes → get_or u (8 * v + a) 0 ≡ others_to d.bytes (t + 1) a v)
      → ((a w : ℕ) → a < arrays d.bytes → (w ≡ v → ⊥) → get_or u (8 * w + a) 0 ≡ get_or s (8 * w + a) 0)
      → ArrayCells d.bytes (rows_to (others_to d.bytes (t + 1)) old (v + 1)) u
  row_next {u} sized new others = record {
    size = sized ∙ so_far.size;
    cells = λ a w in_a in-w.
        elim (ℕ_discrete w v) [
          | yes e ↦ subst (λ (x : ℕ). get_or u (8 * x + a) 0 ≡ rows_to (others_to d.bytes (t + 1)) old (v + 1) a x) (sym e)
              (new a in_a ∙ ap (λ (b : Bool). cond b (others_to d.bytes (t + 1) a v) (get_or old (8 * v + a) 0)) (sym (lt-ltb v (v + 1) (omega arith))))
          | no e ↦ others a w in_a e ∙ so_far.cells a w in_a in-w
              ∙ ap (λ (b : Bool). cond b (others_to d.bytes (t + 1) a w) (get_or old (8 * w + a) 0)) (one_more w v e)
        ];
  }

  pub row_joined : {u : List ℕ} → redistributes_other t (directive d.bytes v) ≡ true
      → u ≡ with_row s v (λ a. bit_or (get_or s (8 * v + a) 0) (get_or held (8 * v + a) 0)) 8
      → ArrayCells d.bytes (rows_to (others_to d.bytes (t + 1)) old (v + 1)) u
  row_joined q e =
      let r : ℕ → ℕ = λ a. bit_or (get_or s (8 * v + a) 0) (get_or held (8 * v + a) 0) in
      subst (ArrayCells d.bytes (rows_to (others_to d.bytes (t + 1)) old (v + 1))) (sym e)
      (row_next (replaced-length s (8 * v) r 8)
      (λ a in_a. replaced_at s (8 * v) r 0 8 a refl (omega (arith, few_columns d)) (omega (arith, so_far.size))
      ∙ ap₂ bit_or (row_was a in_a) (brought.cells a v in_a in_v) ∙ others_joined d.bytes a v t q)
      (λ a w in_a other. replaced_other s (8 * v) r 0 8 (8 * w + a) (λ b in_b p. other (omega (arith, few_columns d)))))

  pub row_left : redistributes_other t (directive d.bytes v) ≡ false → ArrayCells d.bytes (rows_to (others_to d.bytes (t + 1)) old (v + 1)) s
  row_left q = row_next refl (λ a in_a. row_was a in_a ∙ others_left d.bytes a v t q) (λ a w in_a other. refl)

-- ---- 42

-- the cell of array a and vertex v
pub left-cell : (file : List ℕ) {given others : List ℕ} → Given file given → ArrayCells file (others_at file) others → {a v : ℕ} → a < arrays file → v < vertices file
    → several (cond (eqb (get_or given (8 * v + a) 0) 0) 0 (bit_or (get_or given (8 * v + a) 0) (get_or others (8 * v + a) 0))) ≡ several (left_set file a v)
unfolding left_set others_at
left-cell file g o {a} {v} in_a in_v = ap₂ (λ (x y : ℕ). several (cond (eqb x 0) 0 (bit_or x y))) (g.cells a v in_a in_v) (o.cells a v in_a in_v)
