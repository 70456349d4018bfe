-- Each line is the next label's.
use Rattle.listing.proofs.Printed.{none_printed, line_printed}
use Rattle.planner.proofs.print_vertex.Goals as goal

pub loop-label-init : goal.loop-label-init
loop-label-init g c = none_printed _ _

pub loop-label-preserved : goal.loop-label-preserved
loop-label-preserved g c =
    line_printed _ _ _ _ _ _ _ _ _ c.loop-label.invariant c.label-n.ensures.value c.label-n.ensures.out_after (cc) c.in_ok-write_all.ensures.bytes
