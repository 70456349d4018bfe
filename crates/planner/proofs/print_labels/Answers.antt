-- The labels are the next vertex's.
use Rattle.listing.proofs.Printed.{none_printed, labels_printed}
use Rattle.planner.proofs.print_labels.Goals as goal

pub loop-vertex-init : goal.loop-vertex-init
loop-vertex-init g c = none_printed _ _

pub loop-vertex-preserved : goal.loop-vertex-preserved
loop-vertex-preserved g c = labels_printed _ _ _ _ _ _ _ c.loop-vertex.invariant (cc) (cc) c.in_ok-print_vertex.ensures
