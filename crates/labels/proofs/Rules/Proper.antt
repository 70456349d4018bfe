-- What the label rules need of a routine, and that a routine that was read has it.
-- Assumes nothing.
use mathlib.Core.Path.{◌≡◌, sym, ap, ◌∙◌}
use mathlib.Core.List.{List}
use Prim.Native.Nat.{ℕ, ◌+◌, ◌*◌, ◌<◌}
use native.Mathlib.Nat.{add_assoc}
use native.Mathlib.Omega.{arith}
use lib.ListN.{drop, length-drop}
use lib.Seq.{get_or-drop}
use Rattle.words.specs.Words.{word}
use Rattle.flow.specs.Paths.{edge_count, edge_from, edge_to, Edge}
use Rattle.flow.specs.Solver.{Ends}
use Rattle.routine.specs.Arrays.{initial}
use Rattle.routine.specs.Edges.{edge_of}
use Rattle.routine.specs.Layout.{arrays, vertices, entry, exit, edges, edges_at}
use Rattle.routine.specs.Reader.{Laid, EdgeLimits, WellFormed}
use Rattle.labels.specs.Events.{edge_bytes}
use Rattle.sets.specs.Sets.{width}

-- edges end below the vertex count, none enters the entry, none leaves the exit; the initial version is below the width of a set
pub record Proper (file : List ℕ) (a : ℕ) : Type 0 where
  pub ends : Ends (edge_bytes file) (vertices file)
  pub none_enters : (v : ℕ) → Edge (edge_bytes file) v entry → ⊥
  pub none_leaves : (v : ℕ) → Edge (edge_bytes file) (exit file) v → ⊥
  pub initial_fits : initial file a < width

-- a number behind a part
pub word-drop : (n : ℕ) (s : List ℕ) (at : ℕ) → word (drop n s) at ≡ word s (n + at)
unfolding word
word-drop n s at = simp (get_or-drop, add_assoc)

-- ---- the edges of the file

pub edge_count_lem : (file : List ℕ) → Laid file → edge_count (edge_bytes file) ≡ edges file
edge_count_lem file l = rw length-drop (omega (arith, l.ends))

pub edge_from_lem : (file : List ℕ) (i : ℕ) → edge_from (edge_bytes file) i ≡ (edge_of file i).from
edge_from_lem file i = word-drop (edges_at file) file (4 * i)

pub edge_to_is : (file : List ℕ) (i : ℕ) → edge_to (edge_bytes file) i ≡ (edge_of file i).to
edge_to_is file i = word-drop (edges_at file) file (4 * i + 2) ∙ ap (word file) (omega arith)

-- ---- what was read

module _ (file : List ℕ) (w : WellFormed file) where
  limits : (i : ℕ) → i < edge_count (edge_bytes file) → EdgeLimits (edge_of file i) (vertices file)
  limits i h = w.edge_limits (omega (arith, edge_count_lem file w.laid))

  -- its edges are among its vertices
  pub ends_within_lem : Ends (edge_bytes file) (vertices file)
  ends_within_lem = record {
    froms = λ i h. omega (arith, edge_from_lem file i, limits i h);
    tos = λ i h. omega (arith, edge_to_is file i, limits i h);
  }

  -- each of its arrays has what the rules need
  pub proper : (a : ℕ) → a < arrays file → Proper file a
  proper a in_a = record {
    ends = ends_within_lem;
    none_enters = λ v e. (limits e.place e.listed).to_other (sym (edge_to_is file e.place) ∙ e.enters);
    none_leaves = λ v e. (limits e.place e.listed).from_other (sym (edge_from_lem file e.place) ∙ e.leaves);
    initial_fits = omega (arith, w.array_limits in_a);
  }
