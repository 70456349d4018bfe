-- `events::uses_row` meets its contract: a row is replaced.
use Prim.Native.Nat.{◌*◌}
use Rattle.labels.specs.Uses.{use_gives}
use Rattle.routine.specs.Actions.{action}
use Rattle.routine.specs.Layout.{arrays}
use Rattle.words.proofs.Replaced.{Replacing}
use Rattle.passes.proofs.events.uses_row.Given as goal

abbrev pub invariant-loop-a : goal.invariant-loop-a
invariant-loop-a l = Replacing l.initial.uses (8 * l.v) (λ b. use_gives (action l.routine.bytes b l.v)) (arrays l.routine.bytes) l.uses l.a
