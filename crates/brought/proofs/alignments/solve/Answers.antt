-- `alignments::solve` meets its contract: one table is emptied, both are filled and solved.
use mathlib.Core.Path.{◌∙◌}
use mathlib.Core.Bool.{false}
use mathlib.Core.List.{List}
use Prim.Native.Nat.{ℕ, ◌≤◌}
use lib.ListN.{length}
use Rattle.flow.specs.Cells.{Pass}
use Rattle.flow.proofs.Cells.{none_cleared, cells_solved}
use Rattle.directives.specs.Layout.{arrays, vertices, edge_bytes}
use Rattle.directives.proofs.Limits.{read_limits}
use Rattle.mappings.specs.Computed.{last_sets, align_sets}
use Rattle.mappings.specs.Tables.{ArrayCells, Alignments}
use Rattle.facts.proofs.Rounds.{pass_stops}
use Rattle.brought.specs.Cells.{align_gives, align_passes}
use Rattle.brought.proofs.alignments.solve.Goals as goal

-- what the pass leaves
alignments_solved : (file : List ℕ) {gives passes sets : List ℕ} → arrays file ≤ 8 → ArrayCells file (align_gives file) gives → ArrayCells file (align_passes file) passes
    → Pass (edge_bytes file) (vertices file) false gives passes sets → Alignments file sets
unfolding align_sets last_sets align_gives align_passes
alignments_solved file few g p h = cells_solved few (align_gives file) (align_passes file) g p h

pub fill-requires-2 : goal.fill-requires-2
fill-requires-2 c =
    record {
      reached = c.requires.reached;
      gives_len = c.fill.auto.self ∙ c.requires.gives_len;
      passes_len = c.requires.passes_len;
      none_beyond = none_cleared (read_limits c.args.directives.now).few_arrays (length c.args.gives.now) (c.fill.ensures.after (λ y e. e));
    }

pub solve-requires : goal.solve-requires
solve-requires c =
    record {
      edge_order = c.requires.edge_order;
      gives_len = c.fill-2.ensures.cells.size;
      passes_len = c.fill-2.ensures.cells_2.size;
      sets_len = c.requires.aligned_len;
    }

pub shape_of-gives : goal.shape_of-gives
shape_of-gives c = c.fill-2.auto.gives ∙ c.fill.auto.self

pub returns : goal.returns
returns c =
    let file = c.args.directives.now.bytes in
    let few = (read_limits c.args.directives.now).few_arrays in
    record {
      alignments = alignments_solved file few c.fill-2.ensures.cells c.fill-2.ensures.cells_2 c.solve.ensures.pass;
      alignments_stop = pass_stops (align_gives file) (align_passes file) c.args.directives.now few c.requires.edge_order c.fill-2.ensures.cells c.fill-2.ensures.cells_2 c.fill-2.ensures.none_beyond_2 c.solve.ensures.rounds;
    }
