-- `run_with` meets its contract: 20 and 21, the reply, and where it is no refusal the kept sets, the walk and the report.
use Rattle.std.specs.Prelude.{Ok}
use mathlib.Core.Path.{◌≡◌, refl, sym, subst, ◌∙◌}
use Rattle.refusal.specs.Replies.{Reply}
use Rattle.run.proofs.Ways.{denied_ran, run_passed, run_follows, run_size, run_fits, written_ran}
use Rattle.run.specs.Calls.{Taken}
use Rattle.refusal.proofs.Checks.{exits}
use Rattle.run.proofs.run_with.Goals as goal
use Rattle.run.proofs.run_with.Goals.{In_ok-size}

pub prepare-checked-requires : goal.prepare-checked-requires
prepare-checked-requires c =
    record {
      order_len = c.requires.order_len;
      versions_len = c.requires.versions_len;
      uses_len = c.requires.uses_len;
      letters_len = c.requires.letters_len;
      reaching_len = c.requires.kept_len;
      gives_len = c.requires.gives_len;
      passes_len = c.requires.passes_len;
      halves_len = c.requires.halves_len;
    }

pub reply-requires : goal.reply-requires
reply-requires c =
    record {
      is_checked = c.prepare-checked.ensures.checked.answers;
      counts_len = c.requires.counts_len;
      none_taken = c.requires.none_taken;
    }

pub returns-in_err-size : goal.returns-in_err-size
returns-in_err-size c =
    let refused = exits c.from_residual.ensures in
    denied_ran c.args.routine.now.bytes c.args.path.now c.args.out.now (refused ∙ sym c.in_err-size.was ∙ c.reply.ensures.value) refused

-- 20 and 21 are passed
passed : (c : In_ok-size) → c.prepare-checked.result.verdict ≡ Ok tt
passed c =
    let a = c.args in
    c.prepare-checked.ensures.checked.answers ∙ run_passed a.routine.now.bytes a.path.now a.out.now c.reply.ensures.value c.in_ok-size.was

pub kept-requires : goal.kept-requires
kept-requires c =
    record {
      edge_order = c.prepare-checked.ensures.edge_order;
      versions = c.prepare-checked.ensures.versions;
      letters = c.prepare-checked.ensures.checked.letters_are (passed (goal.at.kept-requires c).In_ok-size);
      sets_len = c.prepare-checked.auto.reaching ∙ c.requires.kept_len;
      gives_len = c.prepare-checked.auto.gives ∙ c.requires.gives_len;
      passes_len = c.prepare-checked.auto.passes ∙ c.requires.passes_len;
      halves_len = c.prepare-checked.auto.halves ∙ c.requires.halves_len;
    }

pub write-requires : goal.write-requires
write-requires c =
    let f = c.args.routine.now.bytes in
    let h = c.args.path.now in
    let w = c.in_ok-size.was in
    record {
      path_checked = run_follows f h c.args.out.now c.reply.ensures.value w;
      letters_and_kept = record { letters_are = c.prepare-checked.ensures.checked.letters_are (passed (goal.at.write-requires c).In_ok-size); kept_are = c.kept.ensures.cells };
      passes_counted = subst (λ (r : Reply). Taken r f h c.reply.new.taken) w c.reply.ensures.taken;
      is_length = run_size f h c.args.out.now c.reply.ensures.value w;
      out_room = run_fits f h c.args.out.now c.reply.ensures.value w;
    }

pub shape_of-order : goal.shape_of-order
shape_of-order c = c.prepare-checked.auto.order

pub shape_of-versions : goal.shape_of-versions
shape_of-versions c = c.prepare-checked.auto.versions

pub shape_of-uses : goal.shape_of-uses
shape_of-uses c = c.prepare-checked.auto.uses

pub shape_of-letters : goal.shape_of-letters
shape_of-letters c = c.prepare-checked.auto.letters

pub shape_of-kept : goal.shape_of-kept
shape_of-kept c = c.kept.auto.sets ∙ c.prepare-checked.auto.reaching

pub shape_of-gives : goal.shape_of-gives
shape_of-gives c = c.kept.auto.gives ∙ c.prepare-checked.auto.gives

pub shape_of-passes : goal.shape_of-passes
shape_of-passes c = c.kept.auto.passes ∙ c.prepare-checked.auto.passes

pub shape_of-halves : goal.shape_of-halves
shape_of-halves c = c.kept.auto.halves ∙ c.prepare-checked.auto.halves

pub returns : goal.returns
returns c = written_ran c.args.routine.now.bytes c.args.path.now c.args.out.now (sym c.in_ok-size.was ∙ c.reply.ensures.value) refl c.write.ensures
