-- `flow::row_at` meets its contract: a row is filled.
use lib.ListN.{get_or}
use Prim.Native.Nat.{◌+◌, ◌*◌}
use Rattle.words.proofs.Filling.{Filling}
use Rattle.flow.proofs.row_at.Given as goal

abbrev pub invariant-loop-a : goal.invariant-loop-a
invariant-loop-a l = Filling (λ b. get_or l.sets (8 * l.v + b) 0) 8 l.initial.row l.row l.a
