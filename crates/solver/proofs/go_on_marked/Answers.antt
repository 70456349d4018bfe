-- `solver::go_on_marked` meets its contract: a row of marks for each vertex.
use mathlib.Core.List.{List}
use Prim.Native.Nat.{ℕ, ◌≤◌}
use native.Mathlib.Nat.{lt_of_lt_of_le}
use borrow.Author.Rules.{rules}
use Rattle.flow.specs.Solver.{Ends}
use Rattle.solver.proofs.go_on_marked.Goals as goal

-- edges among n vertices are edges among more
ends_more : {es : List ℕ} {n m : ℕ} → Ends es n → n ≤ m → Ends es m
ends_more e h = record { froms = λ i l. lt_of_lt_of_le (e.froms i l) h; tos = λ i l. lt_of_lt_of_le (e.tos i l) h }

pub mark_all-requires : goal.mark_all-requires
mark_all-requires c =
    record {
      order = c.requires.order;
      edges_bound = c.requires.edges_bound;
      ends = ends_more c.requires.tables.ends c.requires.sets_bound;
    }

pub go_on-requires : goal.go_on-requires
go_on-requires c =
    record {
      order = c.requires.order;
      edges_bound = c.requires.edges_bound;
      tables = c.requires.tables;
      sets_in_bounds = search rules;
      marked = c.mark_all.ensures;
      going = c.requires.going;
    }
