-- `events::event_rows` meets its contract: two rows are replaced.
use Prim.Native.Nat.{◌*◌}
use Rattle.labels.specs.Events.{event, version_set}
use Rattle.labels.specs.Uses.{use_gives}
use Rattle.routine.specs.Layout.{arrays}
use Rattle.words.proofs.Replaced.{Replacing}
use Rattle.passes.proofs.events.event_rows.Given as goal

abbrev pub invariant-loop-a : goal.invariant-loop-a
invariant-loop-a l = Replacing l.initial.versions (8 * l.v) (λ b. version_set (event l.routine.bytes b l.v)) (arrays l.routine.bytes) l.versions l.a
    × Replacing l.initial.uses (8 * l.v) (λ b. use_gives (event l.routine.bytes b l.v)) (arrays l.routine.bytes) l.uses l.a
