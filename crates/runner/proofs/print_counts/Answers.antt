-- Each line is the next count's, and the last is the last before `end`.
use Rattle.listing.proofs.Printed.{none_printed, line_printed, all_printed}
use Rattle.listing.specs.Lines.{count_line}
use Rattle.std.proofs.Common.{ℕ, ◌+◌, ◌*◌, arith}
use Rattle.runner.proofs.print_counts.Goals as goal

pub loop-at-init : goal.loop-at-init
loop-at-init g c = (0, omega arith, omega arith, none_printed _ _)

pub loop-at-preserved : goal.loop-at-preserved
loop-at-preserved g c = (
  c.loop-at.invariant.0 + 1,
  omega arith,
  omega arith,
  line_printed _ _ _ _ _ _ _ _ _ c.loop-at.invariant.3 c.count-n.ensures.value c.count-n.ensures.out_after (cc) c.in_ok-write_all.ensures.bytes,
)

pub returns : goal.returns
returns g c = all_printed _ _ _ _ _ c.loop-at.invariant.3 (omega arith)

pub returns-in_ok-write_all : goal.returns-in_ok-write_all
returns-in_ok-write_all g c =
    all_printed _ _ (λ (i : ℕ). count_line c.args.report.now (c.args.from + 2 * i)) (c.loop-at.invariant.0 + 1) _
    (line_printed _ _ _ _ _ _ _ _ _ c.loop-at.invariant.3 c.count-n.ensures.value c.count-n.ensures.out_after (cc) c.in_ok-write_all.ensures.bytes)
    (omega arith)
