-- `path::check` meets its contract: refusals 30 to 32 in a row; a path of an accepted length has a first vertex and no more than 4,096.
use mathlib.Core.Path.{sym, ◌∙◌}
use Prim.Native.Nat.{◌≤◌, ◌<◌}
use Rattle.refusal.proofs.Checks.{exits, exit_fails, passes, parts}
use Rattle.path.specs.Paths.{steps, path_check}
use Rattle.path.proofs.Counted.{never}
use Rattle.path.proofs.check.Goals as goal
use Rattle.path.proofs.check.Goals.{In_ok-check_length}

pub returns-in_err-check_length : goal.returns-in_err-check_length
unfolding path_check
returns-in_err-check_length c =
    record {
      value = exit_fails _ c.check_length.ensures c.in_err-check_length.was c.from_residual.ensures;
      taken_after = λ f. absurd (never (exits c.from_residual.ensures) f);
    }

some_vertex : (c : In_ok-check_length) → 0 < steps c.args.path.now
some_vertex c =
    let e = sym c.check_length.ensures ∙ c.in_ok-check_length.was in
    search parts

few_vertices : (c : In_ok-check_length) → steps c.args.path.now ≤ 4096
few_vertices c =
    let e = sym c.check_length.ensures ∙ c.in_ok-check_length.was in
    search parts

pub check_start-requires : goal.check_start-requires
check_start-requires c = some_vertex c

pub returns-in_err-check_start : goal.returns-in_err-check_start
unfolding path_check
returns-in_err-check_start c =
    let e = c.from_residual-in_err-check_start.ensures in
    record {
      value = passes c.check_length.ensures c.in_ok-check_length.was (exit_fails _ c.check_start.ensures c.in_err-check_start.was e);
      taken_after = λ f. absurd (never (exits e) f);
    }

pub check_arrivals-requires : goal.check_arrivals-requires
check_arrivals-requires c =
    record {
      path_nonzero = (some_vertex (goal.at.check_arrivals-requires c).In_ok-check_length, few_vertices (goal.at.check_arrivals-requires c).In_ok-check_length);
      taken_value = c.requires.taken_value;
    }

pub returns : goal.returns
unfolding path_check
returns c =
    record {
      value = passes c.check_length.ensures c.in_ok-check_length.was
          (passes c.check_start.ensures c.in_ok-check_start.was
          c.check_arrivals.ensures.value);
      taken_after = c.check_arrivals.ensures.taken_after;
    }
