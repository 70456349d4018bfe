-- `enter_gives` meets its contract: a row is replaced.
use mathlib.Core.Bool.{not, ◌||◌, cond}
use Prim.Native.Nat.{◌*◌, ◌^◌}
use lib.ListN.{get_or}
use Rattle.routine.specs.Arrays.{kind, initial, is_in_or_inout}
use Rattle.labels.specs.Letters.{use_of_byte}
use Rattle.labels.specs.Uses.{is_n}
use Rattle.routine.specs.Layout.{arrays, entry}
use Rattle.words.proofs.Replaced.{Replacing}
use Rattle.passes.proofs.reaching.enter_gives.Given as goal

abbrev pub invariant-loop-a : goal.invariant-loop-a
invariant-loop-a l = Replacing l.initial.gives (8 * entry) (λ b. cond (not (is_n (use_of_byte (get_or l.letters b 0))) || is_in_or_inout (kind l.routine.bytes b)) (2 ^ initial l.routine.bytes b) 0) (arrays l.routine.bytes) l.gives l.a
