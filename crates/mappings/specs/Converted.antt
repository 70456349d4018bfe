-- Document 02, request 4: the routine file that a directive file becomes, from a list `given a v` of the mappings that the directive at v
-- gives array a.
-- Assumes nothing.
use Rattle.std.specs.Prelude.{Bool, false, ◌||◌, cond, List, [], ◌∷◌, ◌++◌, ℕ, zero, suc, ◌+◌, ◌*◌, length, get_or}
use Rattle.words.specs.Tables.{table, rows}
use Rattle.words.specs.Words.{bytes16}
use Rattle.directives.specs.Layout.{arrays, vertices, edges, array_at, reference_at, edge_bytes}
use Rattle.directives.specs.declared.spread.Mapping.{Mapping}
use Rattle.mappings.specs.Along.{alike}
use Rattle.mappings.specs.Rules.{initial_mapping}

-- ---- versions of one array

-- m is one of the list
unfoldable pub is_listed : Mapping → List Mapping → Bool
is_listed m [] = false
is_listed m (n ∷ ns) = alike n m || is_listed m ns

-- the list with those of another that it lacks
unfoldable pub extended : List Mapping → List Mapping → List Mapping
unfolding is_listed
extended ms [] = ms
extended ms (n ∷ ns) = extended (cond (is_listed n ms) ms (ms ++ n ∷ [])) ns

-- from the initial mapping on, then by vertex: those of the first n vertices
unfoldable pub numbered : Mapping → (ℕ → List Mapping) → ℕ → List Mapping
unfolding extended
numbered first given zero = first ∷ []
numbered first given (suc v) = extended (numbered first given v) (given v)

-- the number of a mapping
unfoldable pub version_in : List Mapping → Mapping → ℕ
version_in [] m = 0
version_in (n ∷ ns) m = cond (alike n m) 0 (suc (version_in ns m))

-- ---- the routine

module _ (file : List ℕ) (given : ℕ → ℕ → List Mapping) where
  -- all mappings of array a
  abbrev pub versions : ℕ → List Mapping
  versions a = numbered (initial_mapping file a) (given a) (vertices file)

  -- an array: its kind, number of versions, initial version 0, zero
  abbrev pub array_bytes : ℕ → List ℕ
  array_bytes a = get_or file (array_at file a) 0 ∷ length (versions a) ∷ 0 ∷ 0 ∷ []

  -- an array that a directive remaps gets the version of what it gives; else the byte stays, 00 or a reference
  abbrev pub action_for : ℕ → ℕ → List Mapping → ℕ
  action_for a v [] = get_or file (reference_at file v a) 0
  action_for a v (m ∷ ms) = 0x40 + version_in (versions a) m

  -- the row of vertex v
  abbrev pub row_bytes : ℕ → List ℕ
  row_bytes v = table (λ a. action_for a v (given a v)) (arrays file)

  -- mark, edition, contents
  abbrev pub head_bytes : List ℕ
  head_bytes =
      72 ∷ 80 ∷ 70 ∷ 82 ∷ 1 ∷ 0 ∷ []
      ++ (bytes16 18 ++ (bytes16 (arrays file)
      ++ (bytes16 (18 + 4 * arrays file) ++ (bytes16 (vertices file)
      ++ (bytes16 (18 + 4 * arrays file + vertices file * arrays file) ++ bytes16 (edges file))))))

  -- the edges are those of the file
  unfoldable pub converted_by : List ℕ
  unfolding numbered version_in
  converted_by = head_bytes ++ (rows array_bytes (arrays file) ++ (rows row_bytes (vertices file) ++ edge_bytes file))
