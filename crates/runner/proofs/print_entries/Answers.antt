-- Each line is the next array's.
use Rattle.listing.proofs.Printed.{none_printed, line_printed}
use Rattle.runner.proofs.print_entries.Goals as goal

pub loop-array-init : goal.loop-array-init
loop-array-init g c = none_printed _ _

pub loop-array-preserved : goal.loop-array-preserved
loop-array-preserved g c =
    line_printed _ _ _ _ _ _ _ _ _ c.loop-array.invariant c.entry-n.ensures.value c.entry-n.ensures.out_after (cc) c.in_ok-write_all.ensures.bytes
