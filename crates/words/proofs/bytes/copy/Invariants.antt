-- `bytes::copy`: the first i bytes have been copied.
use Rattle.std.proofs.Common.{◌≡◌, take}
use Rattle.words.specs.Tables.{wrote}
use Rattle.words.proofs.bytes.copy.Given as goal

abbrev pub invariant-loop-i : goal.invariant-loop-i
invariant-loop-i l = l.to ≡ wrote l.initial.to (take l.i l.from)
