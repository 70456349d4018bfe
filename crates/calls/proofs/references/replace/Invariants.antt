-- `references::replace` meets its contract: bytes are replaced one after the other.
use Prim.Native.Nat.{◌+◌}
use lib.ListN.{get_or}
use Rattle.words.proofs.Replaced.{Replacing}
use Rattle.calls.specs.Referring.{referring_byte}
use Rattle.calls.proofs.references.replace.Given as goal

abbrev pub invariant-loop-i : goal.invariant-loop-i
invariant-loop-i l = Replacing l.initial.out l.at (λ j. referring_byte (get_or l.file (l.at + j) 0)) l.n l.out l.i
