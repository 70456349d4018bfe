-- `rounds_plain` meets its contract: 20 and 21 are handed on, then comes the buffer's length, then the numbers.
use native.Mathlib.Omega.{arith}
use Rattle.refusal.proofs.Checks.{exits}
use Rattle.rounds.proofs.Ways.{few, few_first, plain_denied, plain_short, plain_rounded}
use Rattle.rounds.proofs.rounds_plain.Goals as goal

pub returns-in_err-p : goal.returns-in_err-p
returns-in_err-p c = plain_denied c.args.routine.now.bytes c.args.out.now c.requires.is_read c.requires.no_calls c.count-p.ensures c.in_err-p.was (exits c.from_residual.ensures)

pub returns-then-out-lt-FOUR : goal.returns-then-out-lt-FOUR
returns-then-out-lt-FOUR c = plain_short c.args.routine.now.bytes c.args.out.now c.requires.is_read c.requires.no_calls c.count-p.ensures c.in_ok-p.was c.if-out-lt-FOUR.true

pub write_four-requires : goal.write_four-requires
write_four-requires c =
    let file = c.args.routine.now.bytes in
    let n = c.args.routine.now.well.laid.limits.few_vertices in
    let y = c.in_ok-p.was in
    record {
      out_room = omega (arith, c.if-out-lt-FOUR.false);
      four_fit = (few file n (c.count-p.ensures.letters_stop y), few_first file n (c.count-p.ensures.reached_first y), few file n (c.count-p.ensures.reaching_stops y), few file n (c.count-p.ensures.kept_stops y));
    }

pub returns : goal.returns
returns c = plain_rounded c.args.routine.now.bytes c.args.out.now c.requires.is_read c.requires.no_calls c.count-p.ensures c.in_ok-p.was (omega (arith, c.if-out-lt-FOUR.false)) c.write_four.ensures
