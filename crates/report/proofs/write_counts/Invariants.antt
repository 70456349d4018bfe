-- `write_counts` meets its contract: the invariant has the counts passed at the front.
use lib.ListN.{get_or}
use Rattle.words.specs.Words.{bytes16}
use Rattle.words.proofs.Buffers.{Filled}
use Rattle.report.proofs.write_counts.Given as goal

abbrev pub invariant-loop-i : goal.invariant-loop-i
invariant-loop-i l = Filled (λ j. bytes16 (get_or l.counts j 0)) l.i-end l.initial.out l.i l.out
