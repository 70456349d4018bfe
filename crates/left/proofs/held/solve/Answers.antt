-- `held::solve` meets its contract: two tables are emptied, both are filled and solved.
use mathlib.Core.Path.{◌∙◌}
use lib.ListN.{length}
use Rattle.flow.proofs.Cells.{none_cleared}
use Rattle.mappings.specs.Computed.{given_set}
use Rattle.facts.proofs.Rounds.{pass_stops}
use Rattle.left.specs.Cells.{held_gives, held_passes}
use Rattle.left.proofs.Cells.{few_columns, held_passing, gives_held, cells_held}
use Rattle.left.proofs.held.solve.Goals as goal

pub fill-requires-3 : goal.fill-requires-3
fill-requires-3 c =
    let few = few_columns c.args.directives.now in
    record {
      given = c.requires.given;
      gives_len = c.fill.auto.self ∙ c.requires.held_len;
      passes_len = c.fill-2.auto.self ∙ c.requires.passes_len;
      none_beyond = none_cleared few (length c.args.held.now) (c.fill.ensures.after (λ y e. e));
      none_beyond_2 = none_cleared few (length c.args.passes.now) (c.fill-2.ensures.after (λ y e. e));
    }

pub solve_sets-requires : goal.solve_sets-requires
solve_sets-requires c =
    let passed = held_passing c.args.directives.now c.args.t c.fill-3.ensures.array_cells_2 c.fill-3.ensures.none_beyond_4 in
    record {
      edge_order = c.requires.edge_order;
      passes_len = passed.size;
      are_halves = passed.halves;
      sets_len = c.fill-3.ensures.array_cells.size;
      gives_len = c.requires.gives_len;
      halves_len = c.requires.halves_len;
    }

pub returns : goal.returns
returns c =
    let file = c.args.directives.now.bytes in
    let t = c.args.t in
    let given = gives_held file t c.requires.given c.fill-3.ensures.array_cells in
    let passed = (held_passing c.args.directives.now t c.fill-3.ensures.array_cells_2 c.fill-3.ensures.none_beyond_4).cells in
    record {
      array_cells = cells_held c.args.directives.now t given passed c.solve_sets.ensures.pass;
      held_stops = pass_stops (λ a v. held_gives file t a v (given_set file a v)) (held_passes file t) c.args.directives.now (few_columns c.args.directives.now) c.requires.edge_order given passed c.fill-3.ensures.none_beyond_3 c.solve_sets.ensures.rounds;
    }
