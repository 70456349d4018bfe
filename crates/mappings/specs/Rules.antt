-- Document 02, request 4, by paths from the entry: which mappings a directive gives to an array and in which it can leave it; refusals 41 and
-- 42; how versions are numbered.
-- Assumes nothing.
use Rattle.std.specs.Prelude.{◌≡◌, List, ◌⊎◌, ℕ, ◌≤◌, ◌<◌, T, length, get_or}
use Rattle.labels.specs.Reaching.{Arrives}
use Rattle.directives.specs.Layout.{edge_bytes}
use Rattle.directives.specs.Directives.{directive}
use Rattle.directives.specs.declared.spread.Mapping.{Mapping}
use Rattle.mappings.specs.Along.{initial_state, after, state_by, mapping, remaps_in}

-- ---- what a directive does to array a

-- the array's mapping after vertex v, where a path brings these vertices before it
abbrev pub mapping_after : List ℕ → List ℕ → ℕ → ℕ → Mapping
mapping_after file before v a = mapping (after (directive file v) (state_by file before)) a

-- on some path from the entry the directive at v remaps the array, and so gives it the mapping m
pub record Gives (file : List ℕ) (a v : ℕ) (m : Mapping) : Type 0 where
  pub before : List ℕ
  pub path : Arrives (edge_bytes file) before v
  pub remaps : T (remaps_in (state_by file before) (directive file v) a)
  pub is : mapping_after file before v a ≡ m

-- the directive at v remaps the array, on some path; a directive that no path reaches remaps none
pub record Remaps (file : List ℕ) (a v : ℕ) : Type 0 where
  pub mapped : Mapping
  pub gives : Gives file a v mapped

-- the directive at v remaps the array, and some path from the entry, remapped there or not, leaves v with it in mapping m
pub record CanLeave (file : List ℕ) (a v : ℕ) (m : Mapping) : Type 0 where
  pub remapped : Remaps file a v
  pub before : List ℕ
  pub path : Arrives (edge_bytes file) before v
  pub is : mapping_after file before v a ≡ m

-- ---- 41 and 42

-- the mapping in which an array starts
abbrev pub initial_mapping : List ℕ → ℕ → Mapping
initial_mapping file a = mapping (initial_state file) a

-- some path gives it: the initial one, or one that a directive gives
abbrev pub CanHave : List ℕ → ℕ → Mapping → Type 0
CanHave file a m = (initial_mapping file a ≡ m) ⊎ ((v : ℕ) × Gives file a v m)

-- a list in which no mapping stands twice
abbrev pub Once : List Mapping → Type 0
Once ms = (i j : ℕ) (d : Mapping) → i < j → j < length ms → get_or ms i d ≡ get_or ms j d → ⊥

-- 41: more mappings than the limit, over all that some path can give
pub record TooMany (file : List ℕ) (limit a : ℕ) : Type 0 where
  pub mappings : List Mapping
  pub more : limit < length mappings
  pub differ : Once mappings
  pub had : (i : ℕ) (d : Mapping) → i < length mappings → CanHave file a (get_or mappings i d)

-- 42: the directive at v can leave an array that it remaps in two mappings
pub record InTwo (file : List ℕ) (a v : ℕ) : Type 0 where
  pub first : Mapping
  pub second : Mapping
  pub differ : first ≡ second → ⊥
  pub leaves_first : CanLeave file a v first
  pub leaves_second : CanLeave file a v second

-- ---- versions: the initial mapping, then by lowest vertex

pub record Numbering (file : List ℕ) (a : ℕ) (ms : List Mapping) : Type 0 where
  -- version 0 is the initial mapping
  pub starts : (d : Mapping) → get_or ms 0 d ≡ initial_mapping file a
  -- a mapping has one number
  pub once : Once ms
  -- each that a directive gives has one
  pub all : (v : ℕ) (m : Mapping) → Gives file a v m → (k : ℕ) × (k < length ms) × ((d : Mapping) → get_or ms k d ≡ m)
  -- the lowest vertex that gives version k, for each but version 0; these rise
  pub lowest : ℕ → ℕ
  pub given : (k : ℕ) (d : Mapping) → 0 < k → k < length ms → Gives file a (lowest k) (get_or ms k d)
  pub none_lower : (k v : ℕ) (d : Mapping) → 0 < k → k < length ms → v < lowest k → Gives file a v (get_or ms k d) → ⊥
  pub rising : (j k : ℕ) → 0 < j → j < k → k < length ms → lowest j ≤ lowest k
