-- `elsewhere::solve` meets its contract: template after template is joined to a table that was cleared.
use mathlib.Core.Path.{◌≡◌}
use Prim.Native.Nat.{◌≤◌}
use lib.ListN.{length}
use Rattle.mappings.specs.Tables.{ArrayCells}
use Rattle.left.specs.Cells.{others_to}
use Rattle.left.proofs.elsewhere.solve.Given as goal

abbrev pub invariant-loop-t : goal.invariant-loop-t
invariant-loop-t l = (l.t ≤ l.t-end)
    × ArrayCells l.directives.bytes (others_to l.directives.bytes l.t) l.others
    × (length l.held ≡ length l.initial.held)
    × (length l.gives ≡ length l.initial.gives)
    × (length l.passes ≡ length l.initial.passes)
    × (length l.halves ≡ length l.initial.halves)
