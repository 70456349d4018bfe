-- `convert_with` meets its contract: 41, 42, and where both pass what write_checked prepares.
use mathlib.Core.Path.{sym, ◌∙◌}
use Rattle.refusal.proofs.Checks.{exits}
use Rattle.convert.proofs.Ways.{many_refused, two_refused}
use Rattle.convert.proofs.convert_with.Goals as goal

pub number-requires : goal.number-requires
number-requires c =
    record {
      order_len = c.requires.order_len;
      given_len = c.requires.given_len;
      counts_len = c.requires.counts_len;
      reached_len = c.requires.reached_len;
      aligned_len = c.requires.aligned_len;
      spreads_len = c.requires.spreads_len;
      gives_len = c.requires.gives_len;
      passes_len = c.requires.passes_len;
      halves_len = c.requires.halves_len;
    }

pub returns-in_err-number : goal.returns-in_err-number
returns-in_err-number c =
    let a = c.args in
    rw (exits c.from_residual.ensures) (many_refused a.directives.now.bytes a.work.now c.number.ensures.value c.in_err-number.was)

pub check-requires : goal.check-requires
check-requires c =
    record {
      edge_order = c.number.ensures.edge_order;
      given = c.number.ensures.all_numbered.given_are c.in_ok-number.was;
      others_len = c.requires.others_len;
      held_len = c.number.auto.spreads ∙ c.requires.spreads_len;
      gives_len = c.number.auto.gives ∙ c.requires.gives_len;
      passes_len = c.number.auto.passes ∙ c.requires.passes_len;
      halves_len = c.number.auto.halves ∙ c.requires.halves_len;
    }

pub returns-in_err-check : goal.returns-in_err-check
returns-in_err-check c =
    let a = c.args in
    rw (exits c.from_residual-in_err-check.ensures) (two_refused a.directives.now.bytes a.work.now c.number.ensures.value c.in_ok-number.was c.check.ensures c.in_err-check.was)

pub write_checked-requires : goal.write_checked-requires
write_checked-requires c =
    record {
      file_value = sym c.number.ensures.value ∙ c.in_ok-number.was;
      file_value_2 = sym c.check.ensures ∙ c.in_ok-check.was;
      all_numbered = record { given_are = λ _. c.number.ensures.all_numbered.given_are c.in_ok-number.was; counts_are = λ _. c.number.ensures.all_numbered.counts_are c.in_ok-number.was };
      work_len = c.requires.work_len;
      order_len = c.number.auto.order ∙ c.requires.order_len;
      uses_len = c.number.auto.reached ∙ c.requires.reached_len;
      brought_len = c.check.auto.others ∙ c.requires.others_len;
      gives_len = c.check.auto.gives ∙ c.number.auto.gives ∙ c.requires.gives_len;
      passes_len = c.check.auto.passes ∙ c.number.auto.passes ∙ c.requires.passes_len;
      halves_len = c.check.auto.halves ∙ c.number.auto.halves ∙ c.requires.halves_len;
    }

pub shape_of-work : goal.shape_of-work
shape_of-work c = c.write_checked.auto.work

pub shape_of-order : goal.shape_of-order
shape_of-order c = c.write_checked.auto.order ∙ c.number.auto.order

pub shape_of-given : goal.shape_of-given
shape_of-given c = c.write_checked.auto.given ∙ c.number.auto.given

pub shape_of-counts : goal.shape_of-counts
shape_of-counts c = c.number.auto.counts

pub shape_of-reached : goal.shape_of-reached
shape_of-reached c = c.write_checked.auto.uses ∙ c.number.auto.reached

pub shape_of-aligned : goal.shape_of-aligned
shape_of-aligned c = c.number.auto.aligned

pub shape_of-spreads : goal.shape_of-spreads
shape_of-spreads c = c.check.auto.held ∙ c.number.auto.spreads

pub shape_of-others : goal.shape_of-others
shape_of-others c = c.write_checked.auto.brought ∙ c.check.auto.others

pub shape_of-gives : goal.shape_of-gives
shape_of-gives c = c.write_checked.auto.gives ∙ c.check.auto.gives ∙ c.number.auto.gives

pub shape_of-passes : goal.shape_of-passes
shape_of-passes c = c.write_checked.auto.passes ∙ c.check.auto.passes ∙ c.number.auto.passes

pub shape_of-halves : goal.shape_of-halves
shape_of-halves c = c.write_checked.auto.halves ∙ c.check.auto.halves ∙ c.number.auto.halves

pub returns : goal.returns
returns c = c.write_checked.ensures
