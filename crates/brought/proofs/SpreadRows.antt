-- Spreads, row by row: what a vertex gives and passes, what a pass leaves, and the rows that are copied for a template.
-- Assumes nothing.
use mathlib.Core.Path.{◌≡◌, refl, sym, ap, ap₂, subst, ◌∙◌}
use mathlib.Core.Bool.{Bool, true, false, not, ◌&&◌, ◌||◌, cond, and_assoc, true≢false}
use mathlib.Core.List.{List}
use Prim.Native.Nat.{ℕ, ◌+◌, ◌*◌, ◌/◌, ◌%◌, ◌^◌, ◌≤◌, ◌<◌}
use native.Mathlib.Decide.{ℕ_discrete}
use native.Mathlib.Nat.{le_refl}
use native.Mathlib.Omega.{arith}
use borrow.Author.Tests.{eq-eqb, eqb-true}
use lib.Dec.{eqb}
use lib.ListN.{length, get_or}
use Rattle.words.specs.Sums.{any_below}
use Rattle.words.specs.Tables.{with_row}
use Rattle.words.proofs.Replaced.{replaced-length, replaced_other, replaced_at}
use Rattle.words.proofs.Sums.{each_fails}
use Rattle.words.proofs.Tests.{cond-not}
use Rattle.flow.specs.Cells.{Cells, Pass}
use Rattle.flow.proofs.Cells.{cells_solved}
use Rattle.sets.specs.Sets.{width, every_half}
use Rattle.labels.specs.Reaching.{is_reached_over}
use Rattle.directives.specs.Directives.{directive}
use Rattle.directives.specs.Layout.{templates, vertices, entry, edge_bytes}
use Rattle.directives.specs.Read.{ReadFile}
use Rattle.directives.specs.declared.array.Alignment.{Alignment}
use Rattle.directives.specs.declared.vertex.Directive.{Directive}
use Rattle.directives.specs.declared.vertex.Directive.TheVariants.{Realign}
use Rattle.mappings.specs.Computed.{redistributes, last_column}
use Rattle.mappings.specs.Tables.{spread_column, Spreads}
use Rattle.mappings.proofs.Formed.{formed}
use Rattle.facts.proofs.Passing.{Passing, passing}
use Rattle.facts.proofs.Rounds.{none_beyond}
use Rattle.brought.specs.Cells.{realigns_with, is_spreader, spread_gives, spread_passes, spread_halves, SpreadsTo}

-- ---- the cells of vertex v, by what the code finds there

module _ (file : List ℕ) (t v : ℕ) {given : Bool} (is : given ≡ redistributes t (directive file v)) where
  pub spread_gives_lem : {reached : Bool} {set x : ℕ} (c : ℕ) → reached ≡ is_reached_over (edge_bytes file) (vertices file) v → set ≡ 2 ^ (v % width)
      → x ≡ cond ((reached && (eqb v entry || given)) && eqb (v / width) c) set 0 → x ≡ spread_gives file t c v
  unfolding spread_gives
  spread_gives_lem {reached} {set} c r one e =
      e
      ∙ ap₂ (λ (b : Bool) (y : ℕ). cond b y 0) (and_assoc reached (eqb v entry || given) (eqb (v / width) c)) one
      ∙ ap₂ (λ (b d : Bool). cond (b && ((eqb v entry || d) && eqb (v / width) c)) (2 ^ (v % width)) 0) r is

  pub spread_passes_lem : {x : ℕ} → x ≡ cond (not (eqb v entry || given)) every_half 0 → x ≡ spread_halves file t v
  unfolding spread_halves
  spread_passes_lem e =
      e ∙ sym (cond-not (eqb v entry || given) 0 every_half) ∙ ap (λ (b : Bool). cond (eqb v entry || b) 0 every_half) is

-- what is passed of each half is passed of both
pub spread_passing : (file : List ℕ) (t : ℕ) {s : List ℕ} → Cells 8 (vertices file) (λ c v. spread_halves file t v) s
    → Passing 8 (vertices file) (λ c v. spread_passes file t v) s
unfolding spread_halves spread_passes
spread_passing file t h = passing (le_refl 8) (λ c v. is_spreader file t v) h (none_beyond _ _)

-- ---- what the pass leaves

-- the cells of the columns
abbrev pub columns_of : List ℕ → ℕ → ℕ → ℕ → ℕ
columns_of file t c v = get_or (spread_column file t c) v 0

pub spreads_solved : (file : List ℕ) {gives passes sets : List ℕ} (t : ℕ) → Cells 8 (vertices file) (spread_gives file t) gives
    → Cells 8 (vertices file) (λ c v. spread_passes file t v) passes → Pass (edge_bytes file) (vertices file) false gives passes sets
    → Cells 8 (vertices file) (columns_of file t) sets
unfolding spread_column last_column spread_gives spread_passes
spreads_solved file t g p h = cells_solved (le_refl 8) (spread_gives file t) (λ c v. spread_passes file t v) g p h

-- ---- the rows that are copied for template t: those below v have been

pub record Copying (file : List ℕ) (t : ℕ) (s : List ℕ) (v : ℕ) : Type 0 where
  pub size : length s ≡ 8 * vertices file
  pub cells :
      (u b c : ℕ) (x : Alignment) → u < vertices file → c < 8 → directive file u ≡ Realign b x → x.template < t + 1 → (x.template ≡ t → u < v)
      → get_or s (8 * u + c) 0 ≡ columns_of file x.template c u

-- a realign with template t is with no other, and what is none with t is with another
module _ {d : Directive} {b : ℕ} {x : Alignment} (t : ℕ) (is : d ≡ Realign b x) where
  its_template : true ≡ realigns_with t d → x.template ≡ t
  its_template e = eqb-true _ _ (sym (e ∙ ap (realigns_with t) is))

  other_template : false ≡ realigns_with t d → x.template ≡ t → ⊥
  other_template e q = true≢false (sym (eq-eqb _ _ q) ∙ sym (e ∙ ap (realigns_with t) is))

module _ {file s : List ℕ} {t : ℕ} where
  pub copying_begin : SpreadsTo file t s → Copying file t s 0
  copying_begin h = record {
    size = h.size;
    cells = λ u b c x in_u in_c d low early.
        elim (ℕ_discrete x.template t) [
          | yes e ↦ absurd (omega (arith, early e))
          | no e ↦ h.cells u b c x in_u in_c d (omega arith)
        ];
  }

  module _ {v : ℕ} (h : Copying file t s v) where
    pub copying_end : vertices file ≤ v → SpreadsTo file (t + 1) s
    copying_end all = record { size = h.size; cells = λ u b c x in_u in_c d low. h.cells u b c x in_u in_c d low (λ e. omega arith) }

    -- no row to copy
    pub copying_on : {r : List ℕ} → false ≡ realigns_with t (directive file v) → r ≡ s → Copying file t r (v + 1)
    copying_on other same = subst (λ (l : List ℕ). Copying file t l (v + 1)) (sym same) record {
      size = h.size;
      cells = λ u b c x in_u in_c d low early. h.cells u b c x in_u in_c d low (λ e. earlier u b x d e (early e));
    }
      where
        earlier : (u b : ℕ) (x : Alignment) → directive file u ≡ Realign b x → x.template ≡ t → u < v + 1 → u < v
        earlier u b x d e low =
            elim (ℕ_discrete u v) [
              | yes q ↦ absurd (other_template t (sym (ap (directive file) q) ∙ d) other e)
              | no q ↦ omega arith
            ]

    -- a row copied
    pub copying_next : {sets r : List ℕ} → true ≡ realigns_with t (directive file v) → v < vertices file → Cells 8 (vertices file) (columns_of file t) sets
        → r ≡ with_row s v (λ c. get_or sets (8 * v + c) 0) 8 → Copying file t r (v + 1)
    copying_next {sets} {r} is in_v solved e = record {
      size = ap length e ∙ replaced-length s (8 * v) _ 8 ∙ h.size;
      cells = λ u b c x in_u in_c d low early. ap (λ (l : List ℕ). get_or l (8 * u + c) 0) e ∙ cell u b c x in_u in_c d low early;
    }
      where
        row : ℕ → ℕ
        row c = get_or sets (8 * v + c) 0

        cell :
            (u b c : ℕ) (x : Alignment) → u < vertices file → c < 8 → directive file u ≡ Realign b x → x.template < t + 1 → (x.template ≡ t → u < v + 1)
            → get_or (with_row s v row 8) (8 * u + c) 0 ≡ columns_of file x.template c u
        cell u b c x in_u in_c d low early =
            elim (ℕ_discrete u v) [
              | yes q ↦ subst (λ (w : ℕ). get_or (with_row s v row 8) (8 * w + c) 0 ≡ columns_of file x.template c w) (sym q)
                  (replaced_at s (8 * v) row 0 8 c refl in_c (omega (arith, h.size)) ∙ solved.cells c v in_c in_v
                  ∙ ap (λ (k : ℕ). columns_of file k c v) (sym (its_template t (sym (ap (directive file) q) ∙ d) is)))
              | no q ↦ replaced_other s (8 * v) row 0 8 (8 * u + c) (λ a in_a p. q (omega arith)) ∙ h.cells u b c x in_u in_c d low (λ e. omega (arith, early e))
            ]

-- ---- from template to template

module _ {file s : List ℕ} where
  pub spreads_begin : length s ≡ 8 * vertices file → SpreadsTo file 0 s
  spreads_begin size = record { size = size; cells = λ v b c x in_v in_c d low. absurd (omega arith) }

  -- no directive asks for template t
  pub spreads_on : (t : ℕ) → SpreadsTo file t s → any_below (λ v. realigns_with t (directive file v)) (vertices file) ≡ false → SpreadsTo file (t + 1) s
  spreads_on t h none = record {
    size = h.size;
    cells = λ v b c x in_v in_c d low.
        elim (ℕ_discrete x.template t) [
          | yes e ↦ absurd (other_template t d (sym (each_fails _ _ none v in_v)) e)
          | no e ↦ h.cells v b c x in_v in_c d (omega arith)
        ];
  }

pub spreads_end : (d : ReadFile) {t : ℕ} {s : List ℕ} → templates d.bytes ≤ t → SpreadsTo d.bytes t s → Spreads d.bytes s
spreads_end d all h = record {
  size = h.size;
  cells = λ v b c x in_v in_c q. h.cells v b c x in_v in_c q (omega (arith, ((formed d.bytes d.passed).realigned v b x in_v q).0));
}
