-- `u_on` is safe: the parts lie within their arrays.
use Rattle.std.proofs.Common.{arith}
use lib.ListN.{length-take}
use Rattle.limits.proofs.runs.u_on.Goals as goal

pub slice_bounds-write_stamp-end : goal.slice_bounds-write_stamp-end
slice_bounds-write_stamp-end c = simp length-take (omega arith)

pub slice_bounds-write_stamp-end-3 : goal.slice_bounds-write_stamp-end-3
slice_bounds-write_stamp-end-3 c = simp length-take (omega arith)
