-- `events::versions_row` meets its contract: a row is replaced.
use Prim.Native.Nat.{◌*◌}
use Rattle.labels.specs.Events.{version_set}
use Rattle.routine.specs.Actions.{action}
use Rattle.routine.specs.Layout.{arrays}
use Rattle.words.proofs.Replaced.{Replacing}
use Rattle.passes.proofs.events.versions_row.Given as goal

abbrev pub invariant-loop-a : goal.invariant-loop-a
invariant-loop-a l = Replacing l.initial.versions (8 * l.v) (λ b. version_set (action l.routine.bytes b l.v)) (arrays l.routine.bytes) l.versions l.a
