-- Document 01, "Routine file": edges, from and to, 16 bits each.
-- Assumes nothing.
use Rattle.std.specs.Prelude.{Bool, true, not, ◌&&◌, ◌||◌, List, ℕ, zero, suc, ◌+◌, ◌-◌, eqb, ltb}
use Rattle.words.specs.Words.{word}
use Rattle.routine.specs.declared.edge.Edge.{Edge}
use Rattle.refusal.specs.declared.Refusal.TheVariants.{WrongEdge}
use Rattle.refusal.specs.Checks.{Verdict, ◌and_then◌, holds, first_failed}
use Rattle.routine.specs.Layout.{vertices, edges, edge_at}

-- edge i: from, to
abbrev pub edge_of : List ℕ → ℕ → Edge
edge_of file i = record { from = word file (edge_at file i); to = word file (edge_at file i + 2) }

-- both ends below the vertex count; none enters the entry, none leaves the exit
abbrev pub ends_within : Edge → ℕ → Bool
ends_within e n = ltb e.from n && (ltb e.to n && (not (eqb e.to 0) && not (eqb e.from (n - 1))))

-- strictly rising by from, then to
abbrev pub before : Edge → Edge → Bool
before d e = ltb d.from e.from || eqb d.from e.from && ltb d.to e.to

-- edge i stands behind the one before it
unfoldable pub rises : List ℕ → ℕ → Bool
rises file zero = true
rises file (suc i) = before (edge_of file i) (edge_of file (suc i))

-- an edge's ends, then its order
unfoldable pub edge_check : List ℕ → ℕ → Verdict
unfolding rises
edge_check file i =
    holds (ends_within (edge_of file i) (vertices file)) (WrongEdge (edge_at file i))
    and_then holds (rises file i) (WrongEdge (edge_at file i))

-- 16: edge
unfoldable pub check16 : List ℕ → Verdict
unfolding first_failed edge_check
check16 file = first_failed (edge_check file) 0 (edges file)
