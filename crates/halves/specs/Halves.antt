-- How the code keeps it: tables of sets, and tables of their halves.
-- Assumes nothing.
use Rattle.std.specs.Prelude.{List, ℕ, ◌^◌, ◌<◌, length, get_or}
use Rattle.sets.specs.Sets.{half_width, low_half, high_half, of_halves}
use Rattle.words.specs.Tables.{table}

-- the low halves of the sets of a table, and the high ones
abbrev pub low_halves : List ℕ → List ℕ
low_halves sets = table (λ i. low_half (get_or sets i 0)) (length sets)

abbrev pub high_halves : List ℕ → List ℕ
high_halves sets = table (λ i. high_half (get_or sets i 0)) (length sets)

-- the sets with other low halves, or with other high ones
abbrev pub with_low : List ℕ → List ℕ → List ℕ
with_low halves sets = table (λ i. of_halves (get_or halves i 0) (high_half (get_or sets i 0))) (length sets)

abbrev pub with_high : List ℕ → List ℕ → List ℕ
with_high halves sets = table (λ i. of_halves (low_half (get_or sets i 0)) (get_or halves i 0)) (length sets)

-- each of them is a half
abbrev pub AreHalves : List ℕ → Type 0
AreHalves halves = (i : ℕ) → get_or halves i 0 < 2 ^ half_width

-- the sets both halves of which are these
abbrev pub doubled : List ℕ → List ℕ
doubled halves = table (λ i. of_halves (get_or halves i 0) (get_or halves i 0)) (length halves)
