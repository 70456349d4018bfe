-- `reached::solve` meets its contract: both tables are filled and solved.
use mathlib.Core.Bool.{cond}
use native.Mathlib.Nat.{le_refl}
use native.Mathlib.Omega.{arith}
use lib.Dec.{eqb}
use Rattle.passes.proofs.Steps.{reached_gives, reached_passes, reached_sets_lem}
use Rattle.directives.proofs.Limits.{read_limits}
use Rattle.directives.specs.Layout.{entry}
use Rattle.facts.proofs.Rounds.{pass_stops, none_beyond, stops_alike}
use Rattle.facts.proofs.reached.solve.Goals as goal

pub fill_reached-requires : goal.fill_reached-requires
fill_reached-requires c = omega (arith, c.requires.gives_len, (read_limits c.args.directives.now).two_vertices)

pub solve-requires : goal.solve-requires
solve-requires c =
    record {
      edge_order = c.requires.edge_order;
      gives_len = (reached_gives (le_refl 8) c.requires.gives_len c.fill_reached.ensures.gives_after).size;
      passes_len = (reached_passes (le_refl 8) c.requires.passes_len c.fill_reached.ensures.passes_after).size;
      sets_len = c.requires.reached_len;
    }

pub returns : goal.returns
returns c =
    let given = reached_gives (le_refl 8) c.requires.gives_len c.fill_reached.ensures.gives_after in
    let passed = reached_passes (le_refl 8) c.requires.passes_len c.fill_reached.ensures.passes_after in
    let limits = (read_limits c.args.directives.now) in
    record {
      reached = reached_sets_lem (le_refl 8) given passed c.solve.ensures.pass;
      reached_stops = stops_alike (λ v. cond (eqb v entry) 1 0) (λ v. 1) limits.some_array limits.few_arrays
          (pass_stops (λ a v. cond (eqb v entry) 1 0) (λ a v. 1) c.args.directives.now (le_refl 8) c.requires.edge_order given passed (none_beyond _ _) c.solve.ensures.rounds);
    }
