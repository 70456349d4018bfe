-- Document 02, request 4, computed by the solver: which alignments and spreads paths bring, the mappings that a directive gives, and for 42 the
-- versions in which paths bring an array that is aligned with a template; then 41 and 42, and the converted routine.
-- Assumes nothing.
use Rattle.std.specs.Prelude.{Bool, false, not, ◌&&◌, ◌||◌, cond, List, [], ◌∷◌, ℕ, zero, suc, ◌+◌, ◌-◌, ◌*◌, ◌/◌, ◌%◌, ◌^◌, eqb, ltb, length, get_or}
use Rattle.std.specs.Int.Bits.{bit_or}
use Rattle.words.specs.Tables.{table, rows}
use Rattle.flow.specs.Solver.{solution}
use Rattle.sets.specs.Sets.{width, every_version, has, several}
use Rattle.labels.specs.Reaching.{is_reached_over}
use Rattle.refusal.specs.Checks.{holds, first_failed, Verdict}
use Rattle.refusal.specs.Faults.{first_fault}
use Rattle.refusal.specs.declared.Refusal.TheVariants.{TooManyMappings, TwoMappings}
use Rattle.directives.specs.Layout.{templates, arrays, vertices, entry, edge_bytes}
use Rattle.directives.specs.Directives.{directive}
use Rattle.directives.specs.declared.array.Alignment.{Alignment}
use Rattle.directives.specs.declared.spread.Mapping.{Mapping}
use Rattle.directives.specs.declared.vertex.Directive.{Directive}
use Rattle.directives.specs.declared.vertex.Directive.TheVariants.{Nothing, Realign, Redistribute}
use Rattle.mappings.specs.Along.{turned, initial_state}
use Rattle.mappings.specs.Converted.{numbered, version_in, versions, converted_by}

-- ---- the last vertex of a kind on some path of one edge or more from the entry

-- the numbers, below w, of those vertices of the kind that are the last of it on such a path
unfoldable pub last_sets : List ℕ → ℕ → ℕ → (ℕ → Bool) → (ℕ → ℕ) → List ℕ
unfolding solution is_reached_over
last_sets es n w test number =
    solution es false (table (λ u. cond (is_reached_over es n u && test u) (2 ^ number u) 0) n) (table (λ u. cond (test u) 0 (2 ^ w - 1)) n) n

-- how the code keeps it: in columns as wide as a version set, number k in column k / width at bit k % width
unfoldable pub last_column : List ℕ → ℕ → (ℕ → Bool) → (ℕ → ℕ) → ℕ → List ℕ
unfolding solution is_reached_over
last_column es n test number c =
    solution es false
    (table (λ u. cond (is_reached_over es n u && (test u && eqb (number u / width) c)) (2 ^ (number u % width)) 0) n)
    (table (λ u. cond (test u) 0 every_version) n)
    n

-- ---- 1: alignments of array a

-- a realign of array a
abbrev pub realigns : ℕ → Directive → Bool
realigns a Nothing = false
realigns a (Realign b x) = eqb a b
realigns a (Redistribute t m) = false

-- the alignment that a realign gives; of another vertex, which is asked only at the entry, the initial one
abbrev pub alignment_of : Alignment → Directive → Alignment
alignment_of initial Nothing = initial
alignment_of initial (Realign b x) = x
alignment_of initial (Redistribute t m) = initial

-- as a number, below 16 for 8 templates
abbrev pub code : Alignment → ℕ
code x = 2 * x.template + x.exchanged

-- bit 2 t + e in the set of v: some path brings the array aligned with template t, exchanged e
unfoldable pub align_sets : List ℕ → ℕ → List ℕ
unfolding last_sets directive
align_sets file a =
    last_sets (edge_bytes file) (vertices file) 16 (λ u. eqb u entry || realigns a (directive file u))
    (λ u. code (alignment_of ((initial_state file).aligned a) (directive file u)))

-- ---- 2: spreads of template t

-- a redistribute of template t
abbrev pub redistributes : ℕ → Directive → Bool
redistributes t Nothing = false
redistributes t (Realign b x) = false
redistributes t (Redistribute s m) = eqb t s

-- the spread that a redistribute gives; of another vertex the initial one
abbrev pub spread_of : Mapping → Directive → Mapping
spread_of initial Nothing = initial
spread_of initial (Realign b x) = initial
spread_of initial (Redistribute s m) = m

-- bit u in the set of v: some path brings the template with the spread that vertex u, or the entry, gave it
unfoldable pub spread_sets : List ℕ → ℕ → List ℕ
unfolding last_sets directive
spread_sets file t =
    last_sets (edge_bytes file) (vertices file) (vertices file) (λ u. eqb u entry || redistributes t (directive file u)) (λ u. u)

-- the spread that vertex u gave it
abbrev pub spread_by : List ℕ → ℕ → ℕ → Mapping
spread_by file t u = spread_of ((initial_state file).spread t) (directive file u)

-- ---- what the directive at v gives array a

-- a realign: each spread that a path brings, exchanged if the alignment is; a redistribute: its own spread, exchanged by each alignment with
-- the template that a path brings
abbrev pub given_by : List ℕ → ℕ → ℕ → Directive → List Mapping
given_by file a v Nothing = []
given_by file a v (Realign b x) =
    cond (eqb a b)
    (rows (λ u. cond (has (get_or (spread_sets file x.template) v 0) u) (turned x.exchanged (spread_by file x.template u) ∷ []) []) (vertices file))
    []
given_by file a v (Redistribute t m) = rows (λ e. cond (has (get_or (align_sets file a) v 0) (2 * t + e)) (turned e m ∷ []) []) 2

unfoldable pub given_to : List ℕ → ℕ → ℕ → List Mapping
unfolding directive align_sets spread_sets
given_to file a v = given_by file a v (directive file v)

-- all mappings of array a, by version
abbrev pub versions_of : List ℕ → ℕ → List Mapping
versions_of file a = versions file (given_to file) a

-- mappings as a set of versions
unfoldable pub version_set : List Mapping → List Mapping → ℕ
unfolding version_in
version_set ms [] = 0
version_set ms (n ∷ ns) = bit_or (version_set ms ns) (2 ^ version_in ms n)

-- what the directive at v gives, as such a set
unfoldable pub given_set : List ℕ → ℕ → ℕ → ℕ
unfolding given_to numbered version_set
given_set file a v = version_set (versions_of file a) (given_to file a v)

-- ---- 3: versions of array a while it is aligned with template t

-- a vertex that can change them: a realign of the array, a redistribute of the template
abbrev pub changes : ℕ → ℕ → Directive → Bool
changes a t d = realigns a d || redistributes t d

-- the template with which the array is aligned after such a vertex
abbrev pub aligns_with : ℕ → Directive → Bool
aligns_with t Nothing = false
aligns_with t (Realign b x) = eqb x.template t
aligns_with t (Redistribute s m) = eqb s t

-- bit k in the set of v: some path brings the array aligned with the template, in version k
unfoldable pub held_sets : List ℕ → ℕ → ℕ → List ℕ
unfolding solution directive given_set
held_sets file a t =
    solution (edge_bytes file) false
    (table (λ u. cond (eqb u entry) (cond (eqb ((initial_state file).aligned a).template t) 1 0) (cond (aligns_with t (directive file u)) (given_set file a u) 0)) (vertices file))
    (table (λ u. cond (changes a t (directive file u)) 0 every_version) (vertices file))
    (vertices file)

-- ---- 41 and 42

-- what paths that a redistribute of t does not concern bring: the array aligned with another of the first n templates
unfoldable pub elsewhere : List ℕ → ℕ → ℕ → ℕ → ℕ → ℕ
unfolding held_sets
elsewhere file a v t zero = 0
elsewhere file a v t (suc s) = bit_or (elsewhere file a v t s) (cond (eqb s t) 0 (get_or (held_sets file a s) v 0))

-- the versions that the directive leaves as paths bring them
abbrev pub left_by : List ℕ → ℕ → ℕ → Directive → ℕ
left_by file a v Nothing = 0
left_by file a v (Realign b x) = 0
left_by file a v (Redistribute t m) = elsewhere file a v t (templates file)

-- the versions in which the directive at v can leave an array that it remaps
unfoldable pub left_set : List ℕ → ℕ → ℕ → ℕ
unfolding given_set elsewhere directive
left_set file a v = cond (eqb (given_set file a v) 0) 0 (bit_or (given_set file a v) (left_by file a v (directive file v)))

-- 41: more versions than the limit, at the first such array
unfoldable pub check41 : List ℕ → Verdict
unfolding first_failed numbered given_to
check41 file = first_failed (λ a. holds (not (ltb width (length (versions_of file a)))) (TooManyMappings a)) 0 (arrays file)

-- 42: a directive that can leave an array that it remaps in two mappings
unfoldable pub check42 : List ℕ → Verdict
unfolding first_fault left_set
check42 file = first_fault (λ v a. several (left_set file a v)) TwoMappings (vertices file) (arrays file)

-- ---- the routine that a directive file becomes
unfoldable pub converted : List ℕ → List ℕ
unfolding converted_by given_to
converted file = converted_by file (given_to file)
