-- `numbers::check` meets its contract: a scan of the arrays, each of which is numbered.
use Rattle.directives.specs.Layout.{arrays}
use Rattle.refusal.proofs.Checks.{Undecided}
use Rattle.numbering.proofs.Columns.{few_check, AllTo}
use Rattle.numbering.proofs.numbers.check.Given as goal

abbrev pub invariant-loop-a : goal.invariant-loop-a
invariant-loop-a l = Undecided (few_check l.directives.bytes) (arrays l.directives.bytes) l.a × AllTo l.directives.bytes l.given l.counts l.a
