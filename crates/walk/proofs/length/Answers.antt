-- `length` meets its contract.
use borrow.Author.Rules.{rules}
use Rattle.walk.specs.Report.{report_length}
use Rattle.walk.proofs.length.Goals as goal

pub returns : goal.returns
unfolding report_length
returns c = search rules
