-- `elsewhere::join` meets its contract: row after row is joined, or is as it was.
use Prim.Native.Nat.{◌+◌}
use Rattle.flow.proofs.Cells.{rows_to}
use Rattle.mappings.specs.Tables.{ArrayCells}
use Rattle.left.specs.Cells.{others_to}
use Rattle.left.proofs.elsewhere.join.Given as goal

abbrev pub invariant-loop-v : goal.invariant-loop-v
invariant-loop-v l = ArrayCells l.directives.bytes (rows_to (others_to l.directives.bytes (l.t + 1)) l.initial.others l.v) l.others
