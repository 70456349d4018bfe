-- Lines that are printed one after the other.
-- Assumes nothing.
use Rattle.std.proofs.Common.{◌≡◌, ℕ, ◌+◌, ◌*◌, List, Option, length, take, drop, ap₂, ◌∙◌, subst}
use lib.Seq.{take-append_seam}
use Rattle.std.proofs.KnownBytes.{Appends-nil, Appends-trans}
use Rattle.std.specs.Io.KnownBytes.{Appends}
use Rattle.listing.specs.Lines.{vertex_lines, lines_of, lines_before}
use Rattle.words.specs.Tables.{rows, wrote}
use Rattle.words.specs.Words.{word}
use Rattle.words.proofs.Tables.{rows_more}

-- before the first line
pub none_printed : (held : Option (List ℕ)) (row : ℕ → List ℕ) → Appends held held (rows row 0)
unfolding rows
none_printed held row = Appends-nil held

module _ (first then last : Option (List ℕ)) where
  -- row i behind the rows before it
  pub row_printed : (row : ℕ → List ℕ) (i : ℕ) → Appends first then (rows row i) → Appends then last (row i) → Appends first last (rows row (i + 1))
  row_printed row i before this =
      subst (Appends first last) (rows_more row i) (Appends-trans first then last (rows row i) (row i) before this)

  -- a line that was made at the front of a buffer
  pub line_printed : (row : ℕ → List ℕ) (i n : ℕ) (line old made : List ℕ) → Appends first then (rows row i) → n ≡ length made → line ≡ wrote old made
      → made ≡ row i → Appends then last (take n line) → Appends first last (rows row (i + 1))
  line_printed row i n line old made before long is same this =
      row_printed row i before
      (subst (Appends then last) (ap₂ (λ (m : ℕ) (l : List ℕ). take m l) long is ∙ take-append_seam made (drop (length made) old) ∙ same) this)

  -- the labels of a vertex
  pub labels_printed : (plan : List ℕ) (v at count : ℕ) → Appends first then (lines_before plan v) → at ≡ 8 + 4 * word plan 4 + 12 * word plan (8 + 4 * v)
      → count ≡ word plan (8 + 4 * v + 2) → Appends then last (vertex_lines plan v at count) → Appends first last (lines_before plan (v + 1))
  labels_printed plan v at count before here many this =
      row_printed (lines_of plan) v before (subst (Appends then last) (ap₂ (λ (m n : ℕ). vertex_lines plan v m n) here many) this)

-- all rows
pub all_printed : (first last : Option (List ℕ)) (row : ℕ → List ℕ) (i n : ℕ) → Appends first last (rows row i) → i ≡ n → Appends first last (rows row n)
all_printed first last row i n before whole = subst (λ (m : ℕ). Appends first last (rows row m)) whole before
