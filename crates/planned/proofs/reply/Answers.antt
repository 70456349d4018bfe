-- `reply` meets its contract: 20 and 21 are handed on, then comes the buffer's length.
use Rattle.std.specs.Prelude.{Ok, Err}
use mathlib.Core.Path.{◌≡◌, sym, ap, ◌∙◌}
use Prim.Native.Nat.{ℕ, ◌+◌, ◌*◌}
use native.Mathlib.Omega.{arith}
use Rattle.planbytes.specs.Plan.{plan_length}
use Rattle.planbytes.proofs.Sizes.{length_is}
use Rattle.refusal.specs.declared.Refusal.TheVariants.{ShortPlanBuffer}
use Rattle.refusal.proofs.Checks.{exits}
use Rattle.planned.proofs.Ways.{plan_denied, plan_short, plan_written, not_written}
use Rattle.planned.proofs.reply.Goals as goal
use Rattle.planned.proofs.reply.Goals.{After-header}

-- the length, by the count
needs_length : (k : After-header) → 8 + 4 * k.header.result.vertices + 12 * k.label_count-count.result ≡ plan_length k.args.routine.now.bytes
needs_length k = length_is k.args.routine.now.bytes k.header.ensures.read k.label_count-count.ensures.value

pub returns-in_err-checked : goal.returns-in_err-checked
returns-in_err-checked c =
    record {
      answer = exits c.from_residual.ensures ∙ plan_denied c.args.routine.now.bytes c.args.size c.requires.is_checked c.in_err-checked.was;
      counts = λ n e. not_written (sym (exits c.from_residual.ensures) ∙ e);
    }

pub plan_length-needed-requires : goal.plan_length-needed-requires
plan_length-needed-requires c =
    (omega (arith, c.header.ensures.read.heads.vertices_are, c.args.routine.now.well.laid.limits.few_vertices), c.label_count-count.ensures.upper_bound)

pub returns-then-size-needed : goal.returns-then-size-needed
returns-then-size-needed c =
    let needed = c.plan_length-needed.ensures ∙ needs_length (goal.at.returns-then-size-needed c).After-header in
    record {
      answer =
          ap (λ (n : ℕ). Err (ShortPlanBuffer n)) needed
          ∙ plan_short c.args.routine.now.bytes c.args.size c.requires.is_checked c.in_ok-checked.was (omega (arith, needed, c.if-size-needed.true));
      counts = λ n e. not_written e;
    }

pub returns : goal.returns
returns c =
    let needed = c.plan_length-needed.ensures ∙ needs_length (goal.at.returns c).After-header in
    record {
      answer =
          ap Ok needed
          ∙ plan_written c.args.routine.now.bytes c.args.size c.requires.is_checked c.in_ok-checked.was (omega (arith, needed, c.if-size-needed.false));
      counts = λ n e. c.label_count-count.ensures.firsts;
    }
