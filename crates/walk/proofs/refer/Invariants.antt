-- `walk::refer` meets its contract: one array after the other.
use mathlib.Core.Path.{◌≡◌}
use lib.ListN.{length}
use Rattle.routine.specs.Layout.{arrays}
use Rattle.walk.specs.Walks.{cell_bytes, stamp_at}
use Rattle.words.specs.Tables.{rows}
use Rattle.words.proofs.Buffers.{Filled}
use Rattle.words.proofs.Replaced.{Replacing}
use Rattle.walk.proofs.refer.Given as goal

-- the bytes of the first a arrays stand at the front, and their stamps are those after the references
abbrev pub invariant-loop-a : goal.invariant-loop-a
invariant-loop-a l = Filled (cell_bytes l.routine.bytes l.v l.step l.versions l.initial.stamps) (arrays l.routine.bytes) l.initial.out l.a l.out
    × (l.bytes ≡ length (rows (cell_bytes l.routine.bytes l.v l.step l.versions l.initial.stamps) l.a))
    × Replacing l.initial.stamps 0 (stamp_at l.routine.bytes l.v l.step l.initial.stamps) (arrays l.routine.bytes) l.stamps l.a
