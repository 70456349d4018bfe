-- `elsewhere::join_row` meets its contract: a row is replaced.
use Prim.Native.Nat.{◌+◌, ◌*◌}
use lib.Bits.{bit_or}
use lib.ListN.{get_or}
use Rattle.words.proofs.Replaced.{Replacing}
use Rattle.left.proofs.elsewhere.join_row.Given as goal

abbrev pub invariant-loop-a : goal.invariant-loop-a
invariant-loop-a l = Replacing l.initial.others (8 * l.v) (λ b. bit_or (get_or l.initial.others (8 * l.v + b) 0) (get_or l.held (8 * l.v + b) 0)) 8 l.others l.a
