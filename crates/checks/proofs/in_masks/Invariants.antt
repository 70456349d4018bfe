-- `in_masks` meets its contract: a row is filled in place.
use mathlib.Core.Bool.{cond}
use Prim.Native.Nat.{ℕ}
use mathlib.Core.List.{List}
use Rattle.routine.specs.Arrays.{kind, is_in}
use Rattle.routine.specs.Layout.{arrays}
use Rattle.words.proofs.Replaced.{Replacing}
use Rattle.checks.proofs.in_masks.Given as goal

-- the mask of array b
abbrev pub mask : List ℕ → ℕ → ℕ
mask file b = cond (is_in (kind file b)) 0b1000 0

abbrev pub invariant-loop-a : goal.invariant-loop-a
invariant-loop-a l = Replacing l.initial.masks 0 (mask l.routine.bytes) (arrays l.routine.bytes) l.masks l.a
