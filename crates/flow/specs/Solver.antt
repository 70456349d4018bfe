-- How the code keeps it: one operator on sets, computed by rounds over the edges. Bit k is in the set of v if a path of one edge or more
-- from v, through vertices that pass k, arrives at a vertex that gives k. Paths run along the edges, or against them.
-- A set is a mask. No definition here names its width.
-- Assumes nothing.
use Rattle.std.specs.Prelude.{◌≡◌, Bool, true, false, cond, List, ℕ, zero, suc, ◌+◌, ◌-◌, ◌*◌, ◌/◌, ◌≤◌, ◌<◌, T, length, get_or, set, replicate}
use Rattle.std.specs.Int.Bits.{bit_and, bit_or}
use Rattle.sets.specs.Sets.{has, minus}
use Rattle.words.specs.Tables.{table, with_row}
use Rattle.flow.specs.Order.{natural}
use Rattle.flow.specs.declared.Carry.{Carry}
use Rattle.flow.specs.Paths.{edge_count, edge_from, edge_to, Path, Finds}

-- ---- by paths: what a set holds

-- a path from v along the edges, or one that arrives at v: the far end gives k, the inner vertices pass k
abbrev pub Leads : List ℕ → Bool → (ℕ → Bool) → ℕ → ℕ → Type 0
Leads es true through v w = Path es through v w
Leads es false through v w = Path es through w v

-- k is in the set of v: a vertex that gives k is led to
abbrev pub InSet : List ℕ → Bool → List ℕ → List ℕ → ℕ → ℕ → Type 0
InSet es along gives passes v k = Finds (Leads es along (λ u. has (get_or passes u 0) k)) (λ u. T (has (get_or gives u 0) k)) v

-- ---- by rounds: how it is computed

-- the end of edge i whose set grows
abbrev pub near : List ℕ → Bool → ℕ → ℕ
near es along i = cond along (edge_from es i) (edge_to es i)

-- the end that it grows from
abbrev pub far : List ℕ → Bool → ℕ → ℕ
far es along i = cond along (edge_to es i) (edge_from es i)

-- the edge that a round takes as its j-th: those of a pass along the edges by falling place in the order, those of a pass against them by
-- rising place, so that facts travel within a round
abbrev pub turn : List ℕ → Bool → ℕ → ℕ
turn order along j = get_or order (cond along (length order - 1 - j) j) 0

-- what the far end hands on: what it gives, and what it holds and passes
abbrev pub handed : List ℕ → List ℕ → List ℕ → ℕ → ℕ
handed gives passes sets u = bit_or (get_or gives u 0) (bit_and (get_or sets u 0) (get_or passes u 0))

-- one edge taken
abbrev pub relaxed : List ℕ → Bool → List ℕ → List ℕ → List ℕ → ℕ → List ℕ
relaxed es along gives passes sets i =
    set sets (near es along i) (bit_or (get_or sets (near es along i) 0) (handed gives passes sets (far es along i)))

-- the first j edges of a round taken, each by a step
unfoldable pub swept : (List ℕ → ℕ → List ℕ) → List ℕ → Bool → List ℕ → ℕ → List ℕ
swept step order along sets zero = sets
swept step order along sets (suc j) = step (swept step order along sets j) (turn order along j)

-- r whole rounds
unfoldable pub rounds : (List ℕ → ℕ → List ℕ) → List ℕ → Bool → List ℕ → ℕ → List ℕ
unfolding swept
rounds step order along sets zero = sets
rounds step order along sets (suc r) = swept step order along (rounds step order along sets r) (length order)

-- the sets of n vertices: from empty sets, as many rounds as vertices
unfoldable pub solution : List ℕ → Bool → List ℕ → List ℕ → ℕ → List ℕ
unfolding rounds
solution es along gives passes n = rounds (relaxed es along gives passes) (natural (edge_count es)) along (replicate n 0) n

-- ---- eight tables in one: the set of vertex v in column a stands at 8 v + a

abbrev pub column : List ℕ → ℕ → ℕ → List ℕ
column sets n a = table (λ v. get_or sets (8 * v + a) 0) n

-- what the far end hands on in each column
abbrev pub handed_row : List ℕ → List ℕ → List ℕ → ℕ → List ℕ
handed_row gives passes sets u = table (λ a. handed gives passes sets (8 * u + a)) 8

-- the sets of vertex v grown by the first m of a row
abbrev pub grown : List ℕ → ℕ → List ℕ → ℕ → List ℕ
grown sets v row m = with_row sets v (λ a. bit_or (get_or sets (8 * v + a) 0) (get_or row a 0)) m

-- one edge taken in every column
abbrev pub relaxed_row : List ℕ → Bool → List ℕ → List ℕ → List ℕ → ℕ → List ℕ
relaxed_row es along gives passes sets i = grown sets (near es along i) (handed_row gives passes sets (far es along i)) 8

-- r rounds from empty sets
abbrev pub rounds_row : List ℕ → List ℕ → Bool → List ℕ → List ℕ → ℕ → ℕ → List ℕ
rounds_row es order along gives passes n r = rounds (relaxed_row es along gives passes) order along (replicate (8 * n) 0) r

-- r rounds over the empty sets of n vertices, each of which altered a set
pub record Going (es order : List ℕ) (along : Bool) (gives passes : List ℕ) (n : ℕ) (t : List ℕ) (r : ℕ) : Type 0 where
  pub sets : t ≡ rounds_row es order along gives passes n r
  pub most : r ≤ n
  pub altered : (j : ℕ) → j < r → rounds_row es order along gives passes n (suc j) ≡ rounds_row es order along gives passes n j → ⊥

-- ---- the number of rounds: every earlier round altered a set, the last none, and there are at most as many as vertices and one more
pub record Rounds (es order : List ℕ) (along : Bool) (gives passes : List ℕ) (n r : ℕ) : Type 0 where
  pub some : 0 < r
  pub most : r ≤ n + 1
  pub altered : (j : ℕ) → suc j < r → rounds_row es order along gives passes n (suc j) ≡ rounds_row es order along gives passes n j → ⊥
  pub still : rounds_row es order along gives passes n r ≡ rounds_row es order along gives passes n (r - 1)

-- ---- edges whose ends are among n vertices
pub record Ends (es : List ℕ) (n : ℕ) : Type 0 where
  pub froms : (i : ℕ) → i < edge_count es → edge_from es i < n
  pub tos : (i : ℕ) → i < edge_count es → edge_to es i < n

-- ---- what the functions state

-- rows of a table
abbrev pub row_count : List ℕ → ℕ
row_count sets = length sets / 8

-- tables of whole rows, one for each vertex, over edges among these vertices
pub record Tables (es gives passes sets : List ℕ) : Type 0 where
  pub ends : Ends es (row_count sets)
  pub whole : length sets ≡ 8 * row_count sets
  pub gives_all : length gives ≡ length sets
  pub passes_all : length passes ≡ length sets

-- the sets of vertex v
abbrev pub row_of : List ℕ → ℕ → List ℕ
row_of sets v = table (λ a. get_or sets (8 * v + a) 0) 8

-- the row beside the sets is that of its vertex, if it is one
pub record Recent (sets : List ℕ) (r : Carry) : Type 0 where
  pub row_is : 8 * r.vertex + 8 ≤ length sets → r.row ≡ row_of sets r.vertex

-- a note of what rows were given, in each column, joined with what a row has that the sets of vertex v have not
abbrev pub noted : List ℕ → List ℕ → ℕ → List ℕ → List ℕ
noted note sets v row = table (λ a. bit_or (get_or note a 0) (minus (get_or row a 0) (get_or sets (8 * v + a) 0))) 8

-- all columns of a note in one mask
unfoldable pub in_all : List ℕ → ℕ → ℕ
in_all note zero = 0
in_all note (suc a) = bit_or (in_all note a) (get_or note a 0)

-- whether the sets were altered
abbrev pub Altered : Bool → List ℕ → List ℕ → Type 0
Altered true before after = after ≡ before → ⊥
Altered false before after = after ≡ before

-- the sets are what they should be, and the answer says whether that altered them
pub record Advanced (right before : List ℕ) (answer : Bool) (after : List ℕ) : Type 0 where
  pub sets : after ≡ right
  pub told : Altered answer before after

-- each column is the solution for its column, and r is the number of rounds
pub record Solved (es order : List ℕ) (along : Bool) (gives passes : List ℕ) (n r : ℕ) (after : List ℕ) : Type 0 where
  pub size : length after ≡ 8 * n
  pub sets : (a : ℕ) → a < 8 → column after n a ≡ solution es along (column gives n a) (column passes n a) n
  pub counted : Rounds es order along gives passes n r
