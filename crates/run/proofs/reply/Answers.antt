-- `reply` meets its contract: 20 and 21 are handed on, then come 30 to 32, then the buffer's length.
use Rattle.std.specs.Prelude.{Ok, Err}
use mathlib.Core.Path.{sym, ap, ◌∙◌}
use Prim.Native.Nat.{ℕ}
use native.Mathlib.Omega.{arith}
use Rattle.refusal.specs.declared.Refusal.TheVariants.{ShortReportBuffer}
use Rattle.refusal.proofs.Checks.{exits}
use Rattle.run.proofs.Ways.{run_denied, run_path_denied, run_short, run_written, none_taken}
use Rattle.run.proofs.reply.Goals as goal

pub returns-in_err-checked : goal.returns-in_err-checked
returns-in_err-checked c =
    record {
      value = exits c.from_residual.ensures ∙ run_denied c.args.routine.now.bytes c.args.path.now c.args.size c.requires.is_checked c.in_err-checked.was;
      taken = none_taken _ _ _ (exits c.from_residual.ensures);
    }

pub returns-in_err-check : goal.returns-in_err-check
returns-in_err-check c =
    record {
      value = exits c.from_residual-in_err-check.ensures ∙ run_path_denied c.args.routine.now.bytes c.args.path.now c.args.size c.requires.is_checked c.in_ok-checked.was c.check.ensures.value c.in_err-check.was;
      taken = none_taken _ _ _ (exits c.from_residual-in_err-check.ensures);
    }

pub length-needed-requires : goal.length-needed-requires
length-needed-requires c =
    record {
      path_checked = sym c.check.ensures.value ∙ c.in_ok-check.was;
      counts_len = c.requires.counts_len;
    }

pub returns-then-size-needed : goal.returns-then-size-needed
returns-then-size-needed c =
    record {
      value = ap (λ (n : ℕ). Err (ShortReportBuffer n)) c.length-needed.ensures
          ∙ run_short c.args.routine.now.bytes c.args.path.now c.args.size c.requires.is_checked c.in_ok-checked.was c.check.ensures.value c.in_ok-check.was (omega (arith, c.length-needed.ensures));
      taken = tt;
    }

pub returns : goal.returns
returns c =
    let w = c.in_ok-check.was in
    record {
      value = ap Ok c.length-needed.ensures
          ∙ run_written c.args.routine.now.bytes c.args.path.now c.args.size c.requires.is_checked c.in_ok-checked.was c.check.ensures.value w (omega (arith, c.length-needed.ensures));
      taken = c.check.ensures.taken_after w;
    }
