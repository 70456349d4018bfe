-- `spreads::solve` meets its contract: template after template.
use mathlib.Core.Path.{◌≡◌}
use Prim.Native.Nat.{◌*◌, ◌≤◌}
use lib.ListN.{length}
use Rattle.directives.specs.Layout.{vertices}
use Rattle.brought.specs.Cells.{SpreadsTo}
use Rattle.brought.proofs.spreads.solve.Given as goal

abbrev pub invariant-loop-t : goal.invariant-loop-t
invariant-loop-t l = (l.t ≤ l.t-end)
    × SpreadsTo l.directives.bytes l.t l.spreads
    × (length l.sets ≡ 8 * vertices l.directives.bytes)
    × (length l.gives ≡ 8 * vertices l.directives.bytes)
    × (length l.passes ≡ 8 * vertices l.directives.bytes)
    × (length l.halves ≡ 8 * vertices l.directives.bytes)
