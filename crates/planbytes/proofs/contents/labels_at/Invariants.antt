-- `contents::labels_at` meets its contract. The invariant: `count` is the number of labels among the first a columns that are an array's.
use mathlib.Core.Path.{◌≡◌}
use Prim.Native.Nat.{◌≤◌, min}
use Rattle.labels.specs.Events.{is_label}
use Rattle.words.specs.Sums.{count_of}
use Rattle.planbytes.proofs.contents.labels_at.Given as goal

abbrev pub invariant-loop-a : goal.invariant-loop-a
invariant-loop-a l = (l.a ≤ 8) × (l.count ≡ count_of (λ b. is_label l.routine.bytes b l.v) (min l.a l.m))
