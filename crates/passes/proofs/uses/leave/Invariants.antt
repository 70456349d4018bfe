-- `uses::leave` meets its contract: a row is replaced.
use Prim.Native.Nat.{◌*◌}
use Rattle.labels.specs.Letters.{letter_byte}
use Rattle.labels.specs.declared.Use.TheVariants.{W}
use Rattle.routine.specs.Layout.{arrays, exit}
use Rattle.words.proofs.Replaced.{Replacing}
use Rattle.passes.proofs.uses.leave.Given as goal

abbrev pub invariant-loop-a : goal.invariant-loop-a
invariant-loop-a l = Replacing l.initial.letters (8 * exit l.routine.bytes) (λ b. letter_byte W) (arrays l.routine.bytes) l.letters l.a
