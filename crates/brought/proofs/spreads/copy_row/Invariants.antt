-- `spreads::copy_row` meets its contract: a row is replaced.
use Prim.Native.Nat.{◌+◌, ◌*◌}
use lib.ListN.{get_or}
use Rattle.words.proofs.Replaced.{Replacing}
use Rattle.brought.proofs.spreads.copy_row.Given as goal

abbrev pub invariant-loop-c : goal.invariant-loop-c
invariant-loop-c l = Replacing l.initial.spreads (8 * l.v) (λ b. get_or l.sets (8 * l.v + b) 0) 8 l.spreads l.c
