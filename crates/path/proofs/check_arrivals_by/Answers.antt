-- `check_arrivals_by` meets its contract: a scan of the arrivals, with the counts of the steps so far.
use mathlib.Core.Path.{◌≡◌, sym, ap, ◌∙◌}
use Prim.Native.Nat.{ℕ, ◌-◌}
use native.Mathlib.Omega.{arith}
use lib.ListN.{length, length-replicate}
use Rattle.refusal.proofs.Checks.{exits, scan_start, scan_exit, scan_next, scan_done}
use Rattle.routine.specs.Layout.{edges}
use Rattle.words.specs.Tables.{table}
use Rattle.words.proofs.Tables.{table-length}
use Rattle.path.specs.Passes.{passes_up_to}
use Rattle.path.specs.Paths.{steps}
use Rattle.path.proofs.Counted.{never, counts_begin}
use Rattle.path.proofs.Paths.{arrivals}
use Rattle.path.proofs.check_arrivals_by.Goals as goal
use Rattle.path.proofs.check_arrivals_by.Goals.{At-loop-i}

-- the counts of all edges
long : (c : At-loop-i) → length c.loop-i.taken ≡ length c.args.taken.now
long c = let n = edges c.args.routine.now.bytes in ap length c.loop-i.invariant.1 ∙ table-length _ n ∙ sym (ap length c.requires.taken_value ∙ length-replicate n 0)

pub loop-i-init : goal.loop-i-init
loop-i-init c = (scan_start _ _, counts_begin c.args.routine.now.bytes c.args.path.now c.requires.taken_value)

pub pass-requires : goal.pass-requires
pass-requires c =
    record {
      starts = c.requires.starts;
      i_bound = (omega (arith, c.requires.path_nonzero), omega (arith, c.requires.path_nonzero));
      taken_value = c.loop-i.invariant.1;
    }

pub returns-in_err-pass : goal.returns-in_err-pass
returns-in_err-pass c =
    record {
      value = scan_exit c.loop-i.invariant.0 (omega arith) c.pass.ensures.value c.in_err-pass.was c.from_residual.ensures ∙ arrivals _ _;
      taken_after = λ f. absurd (never (exits c.from_residual.ensures) f);
    }

pub loop-i-preserved : goal.loop-i-preserved
loop-i-preserved c =
    let e = c.in_ok-pass.was in
    (scan_next c.loop-i.invariant.0 (omega arith) c.pass.ensures.value e, c.pass.ensures.taken_after e)

pub shape_of-taken : goal.shape_of-taken
shape_of-taken c = long (goal.at.shape_of-taken c).At-loop-i

pub returns : goal.returns
returns c =
    let done : c.loop-i.i ≡ steps c.args.path.now - 1 = omega (arith, c.loop-i.invariant.0.within, c.loop-i-test.false) in
    record {
      value = scan_done c.loop-i.invariant.0 (omega arith) ∙ arrivals _ _;
      taken_after = λ _. c.loop-i.invariant.1 ∙ ap (λ (i : ℕ). table (passes_up_to c.args.routine.now.bytes c.args.path.now i) (edges c.args.routine.now.bytes)) done;
    }
