-- `contents::label_count` meets its contract. The invariant: `count` is the number of labels of the vertices before v, and the index of the first label
-- is filled in for each of these.
use mathlib.Core.Path.{◌≡◌}
use Prim.Native.Nat.{◌≤◌}
use lib.ListN.{length}
use Rattle.planbytes.specs.Plan.{labels_before}
use Rattle.words.proofs.Filling.{Filling}
use Rattle.planbytes.proofs.contents.label_count.Given as goal

abbrev pub invariant-loop-v : goal.invariant-loop-v
invariant-loop-v l = (l.v ≤ l.n) × (l.count ≡ labels_before l.routine.bytes l.v) × Filling (labels_before l.routine.bytes) (length l.initial.firsts) l.initial.firsts l.firsts l.v
