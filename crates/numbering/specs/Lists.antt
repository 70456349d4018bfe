-- How the code keeps it: the mappings of one array in a list with room for `width`, and what numbering leaves.
-- Assumes nothing.
use Rattle.std.specs.Prelude.{◌≡◌, List, [], ◌∷◌, ◌++◌, ℕ, ◌+◌, ◌*◌, ◌≤◌, ◌<◌, T, length, get_or, take, Ok}
use Rattle.directives.specs.Layout.{vertices}
use Rattle.directives.specs.declared.spread.Mapping.{Mapping}
use Rattle.mappings.specs.Computed.{versions_of, version_set, given_set}
use Rattle.mappings.specs.Converted.{is_listed, extended}
use Rattle.mappings.specs.Tables.{Given, VersionCounts}
use Rattle.numbering.specs.declared.list.Numbered.{Numbered}
use Rattle.refusal.specs.Checks.{Verdict}
use Rattle.sets.specs.Sets.{width}

-- the list holds the mappings ms; those at hand, ns, are listed, and are a set of versions; of more than `width` only that is known
pub record Holds (ms ns list : List Mapping) (p : Numbered) : Type 0 where
  pub room : length list ≡ width
  pub listed : (m : Mapping) → T (is_listed m ns) → T (is_listed m ms)
  pub few : length ms ≤ width → (p.count ≡ length ms) × (take (length ms) list ≡ ms) × (p.given ≡ version_set ms ns)
  pub many : width < length ms → p.count ≡ width + 1

-- one mapping alone
pub record Starts (m : Mapping) (list : List Mapping) : Type 0 where
  pub room : length list ≡ width
  pub is : take 1 list ≡ m ∷ []

-- what the list held, extended by `more`
pub record Grows (more list : List Mapping) (p : Numbered) (list' : List Mapping) (q : Numbered) : Type 0 where
  pub room : length list' ≡ width
  pub most : q.count ≤ width + 1
  pub holds : (ms ns : List Mapping) → Holds ms ns list p → Holds (extended ms more) (ns ++ more) list' q

-- the column of array a numbered, where it has no more versions than the limit; the other columns as they were
pub record ColumnNumbered (file : List ℕ) (a : ℕ) (before : List ℕ) (count : ℕ) (after : List ℕ) : Type 0 where
  pub size : length after ≡ 8 * vertices file
  pub few : length (versions_of file a) ≤ width → (count ≡ length (versions_of file a)) × ((v : ℕ) → v < vertices file → get_or after (8 * v + a) 0 ≡ given_set file a v)
  pub many : width < length (versions_of file a) → count ≡ width + 1
  pub others : (b v : ℕ) → b < 8 → (b ≡ a → ⊥) → v < vertices file → get_or after (8 * v + b) 0 ≡ get_or before (8 * v + b) 0

-- where 41 passes: the versions that directives give, and how many each array has
pub record AllNumbered (file : List ℕ) (answer : Verdict) (given counts : List ℕ) : Type 0 where
  pub given_are : answer ≡ Ok tt → Given file given
  pub counts_are : answer ≡ Ok tt → VersionCounts file counts
