-- Document 02, request 5: after how many rounds the passes for alignments and spreads stop.
-- Assumes nothing.
use Rattle.std.specs.Prelude.{◌≡◌, false, List, ◌⊎◌, ℕ}
use Rattle.words.specs.Sums.{any_below}
use Rattle.directives.specs.Directives.{directive}
use Rattle.directives.specs.Layout.{arrays, vertices}
use Rattle.facts.specs.Counted.{Stops}
use Rattle.brought.specs.Cells.{align_gives, align_passes, realigns_with, spread_gives, spread_passes}

-- the pass for the alignments
abbrev pub AlignmentsStop : List ℕ → ℕ → Type 0
AlignmentsStop file r = Stops file (arrays file) (align_gives file) (align_passes file) r

-- the pass for the spreads of template t, in eight columns
abbrev pub SpreadsStop : List ℕ → ℕ → ℕ → Type 0
SpreadsStop file t r = Stops file 8 (λ c v. spread_gives file t c v) (λ c v. spread_passes file t v) r

-- it is made, or it is not and r is 0, since no directive realigns an array with the template
abbrev pub SpreadsAsked : List ℕ → ℕ → ℕ → Type 0
SpreadsAsked file t r = SpreadsStop file t r ⊎ ((r ≡ 0) × (any_below (λ v. realigns_with t (directive file v)) (vertices file) ≡ false))
