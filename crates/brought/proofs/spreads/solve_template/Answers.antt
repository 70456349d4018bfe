-- `spreads::solve_template` meets its contract: the tables are filled, the pass solved, and the rows that are asked for copied.
use Rattle.std.proofs.Common.{rules}
use mathlib.Core.Path.{refl}
use mathlib.Core.Logic.{inl, inr}
use native.Mathlib.Nat.{le_refl}
use Rattle.words.proofs.Sums.{none_below}
use Rattle.directives.specs.Directives.{directive}
use Rattle.directives.specs.Layout.{vertices}
use Rattle.facts.proofs.Rounds.{pass_stops, none_beyond}
use Rattle.brought.specs.Cells.{realigns_with, spread_gives, spread_passes}
use Rattle.brought.proofs.SpreadRows.{spread_passing, spreads_solved, spreads_on}
use Rattle.brought.proofs.spreads.solve_template.Goals as goal

pub returns-then-not-any : goal.returns-then-not-any
returns-then-not-any c =
    let file = c.args.directives.now.bytes in
    let t = c.args.t in
    let none = none_below (λ v. realigns_with t (directive file v)) (vertices file) (λ v h. let told = c.any.ensures.none c.if-not-any.true v h in search rules) in
    record {
      spreads_to_2 = spreads_on t c.requires.spreads_to none;
      spreads_asked = inr (refl, none);
    }

pub fill-requires : goal.fill-requires
fill-requires c =
    record {
      reached = c.requires.reached;
      gives_len = c.requires.sets_len;
      passes_len = c.requires.passes_len;
    }

pub solve_sets-rounds-requires : goal.solve_sets-rounds-requires
solve_sets-rounds-requires c =
    let passed = spread_passing c.args.directives.now.bytes c.args.t c.fill.ensures.cells_2 in
    record {
      edge_order = c.requires.edge_order;
      passes_len = passed.size;
      are_halves = passed.halves;
      sets_len = c.fill.ensures.cells.size;
      gives_len = c.requires.gives_len;
      halves_len = c.requires.halves_len;
    }

pub copy_asked-requires : goal.copy_asked-requires
copy_asked-requires c =
    let file = c.args.directives.now.bytes in
    let t = c.args.t in
    record {
      cells = spreads_solved file t c.fill.ensures.cells (spread_passing file t c.fill.ensures.cells_2).cells c.solve_sets-rounds.ensures.pass;
      spreads_to = c.requires.spreads_to;
    }

pub returns : goal.returns
returns c =
    let file = c.args.directives.now.bytes in
    let t = c.args.t in
    let passed = (spread_passing file t c.fill.ensures.cells_2).cells in
    record {
      spreads_to_2 = c.copy_asked.ensures;
      spreads_asked = inl (pass_stops (spread_gives file t) (λ k v. spread_passes file t v) c.args.directives.now (le_refl 8) c.requires.edge_order c.fill.ensures.cells passed (none_beyond _ _) c.solve_sets-rounds.ensures.rounds);
    }
