-- `plan_with` meets its contract: 20 and 21, the reply, and where it is no refusal the kept sets and the plan.
use Rattle.std.specs.Prelude.{Ok}
use mathlib.Core.Path.{◌≡◌, refl, sym, ◌∙◌}
use Rattle.planned.proofs.Ways.{denied_planned, plan_passed, plan_fits, written_planned}
use Rattle.refusal.proofs.Checks.{exits}
use Rattle.plan.proofs.plan_with.Goals as goal
use Rattle.plan.proofs.plan_with.Goals.{In_ok-length}

pub prepare-checked-requires : goal.prepare-checked-requires
prepare-checked-requires c =
    record {
      order_len = c.requires.order_len;
      versions_len = c.requires.versions_len;
      uses_len = c.requires.uses_len;
      letters_len = c.requires.letters_len;
      reaching_len = c.requires.reaching_len;
      gives_len = c.requires.gives_len;
      passes_len = c.requires.passes_len;
      halves_len = c.requires.halves_len;
    }

pub reply-requires : goal.reply-requires
reply-requires c =
    record {
      is_checked = c.prepare-checked.ensures.checked.answers;
      versions = c.prepare-checked.ensures.versions;
      firsts_room = c.requires.firsts_room;
    }

pub returns-in_err-length : goal.returns-in_err-length
returns-in_err-length c =
    let refused = exits c.from_residual.ensures in
    denied_planned c.args.routine.now.bytes c.args.out.now (refused ∙ sym c.in_err-length.was ∙ c.reply.ensures.answer) refused

-- 20 and 21 are passed
passed : (c : In_ok-length) → c.prepare-checked.result.verdict ≡ Ok tt
passed c =
    let a = c.args in
    c.prepare-checked.ensures.checked.answers ∙ plan_passed a.routine.now.bytes a.out.now c.reply.ensures.answer c.in_ok-length.was

pub kept-requires : goal.kept-requires
kept-requires c =
    record {
      edge_order = c.prepare-checked.ensures.edge_order;
      versions = c.prepare-checked.ensures.versions;
      letters = c.prepare-checked.ensures.checked.letters_are (passed (goal.at.kept-requires c).In_ok-length);
      sets_len = c.requires.kept_len;
      gives_len = c.prepare-checked.auto.gives ∙ c.requires.gives_len;
      passes_len = c.prepare-checked.auto.passes ∙ c.requires.passes_len;
      halves_len = c.prepare-checked.auto.halves ∙ c.requires.halves_len;
    }

pub write-requires : goal.write-requires
write-requires c =
    record {
      firsts = c.reply.ensures.counts _ c.in_ok-length.was;
      tabled = record {
        versions_are = c.prepare-checked.ensures.versions;
        reaching_are = c.prepare-checked.ensures.checked.reaching_are (passed (goal.at.write-requires c).In_ok-length);
        letters_and_kept = record { letters_are = c.prepare-checked.ensures.checked.letters_are (passed (goal.at.write-requires c).In_ok-length); kept_are = c.kept.ensures.cells };
      };
      file_in_bounds = plan_fits c.args.routine.now.bytes c.args.out.now c.reply.ensures.answer c.in_ok-length.was;
    }

pub shape_of-order : goal.shape_of-order
shape_of-order c = c.prepare-checked.auto.order

pub shape_of-versions : goal.shape_of-versions
shape_of-versions c = c.prepare-checked.auto.versions

pub shape_of-uses : goal.shape_of-uses
shape_of-uses c = c.prepare-checked.auto.uses

pub shape_of-letters : goal.shape_of-letters
shape_of-letters c = c.prepare-checked.auto.letters

pub shape_of-reaching : goal.shape_of-reaching
shape_of-reaching c = c.prepare-checked.auto.reaching

pub shape_of-gives : goal.shape_of-gives
shape_of-gives c = c.kept.auto.gives ∙ c.prepare-checked.auto.gives

pub shape_of-passes : goal.shape_of-passes
shape_of-passes c = c.kept.auto.passes ∙ c.prepare-checked.auto.passes

pub shape_of-halves : goal.shape_of-halves
shape_of-halves c = c.kept.auto.halves ∙ c.prepare-checked.auto.halves

pub returns : goal.returns
returns c = written_planned c.args.routine.now.bytes c.args.out.now (sym c.in_ok-length.was ∙ c.reply.ensures.answer) refl c.write.ensures
