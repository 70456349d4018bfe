-- `rows::return_version` meets its contract.
use mathlib.Core.Path.{ap, ◌∙◌}
use Prim.Native.Nat.{◌+◌, ◌*◌}
use native.Mathlib.Omega.{arith}
use lib.ListN.{get_or}
use Rattle.routine.specs.declared.array.ArrayRecord.{ArrayRecord}
use Rattle.sets.specs.Sets.{width}
use Rattle.sets.proofs.Laws.{lowest_below}
use Rattle.calls.proofs.RowBytes.{none_arrives, one_arrives}
use Rattle.calls.proofs.rows.return_version.Goals as goal

pub returns-then-arriving-eq0 : goal.returns-then-arriving-eq0
returns-then-arriving-eq0 c =
    let is = c.requires.arrivals.are c.args.a c.args.v c.requires.a_bound c.requires.v_bound in
    let record_is = ap (λ (r : ArrayRecord). r.initial) c.array.ensures in
    record {
      value = record_is ∙ none_arrives c.args.routine.now.bytes c.args.a c.args.v is c.if-arriving-eq0.true;
      upper_bound = omega (arith, record_is, c.args.routine.now.well.array_limits c.requires.a_bound);
    }

pub returns : goal.returns
returns c =
    let at = 8 * c.args.v + c.args.a in
    let arrived = get_or c.args.arrivals.now at 0 in
    let is = c.requires.arrivals.are c.args.a c.args.v c.requires.a_bound c.requires.v_bound in
    let below = lowest_below width arrived (omega arith) (omega (arith, c.type_inv.arrivals at)) in
    record {
      value = c.lowest.ensures ∙ one_arrives c.args.routine.now.bytes c.args.a c.args.v is c.if-arriving-eq0.false;
      upper_bound = omega (arith, c.lowest.ensures, below);
    }
