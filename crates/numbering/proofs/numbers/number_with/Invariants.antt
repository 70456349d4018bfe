-- `numbers::number_with` meets its contract: the column is numbered vertex by vertex.
use Rattle.numbering.proofs.Columns.{ColumnTo}
use Rattle.numbering.proofs.numbers.number_with.Given as goal

abbrev pub invariant-loop-v : goal.invariant-loop-v
invariant-loop-v l = ColumnTo l.directives.bytes l.a l.initial.given l.given l.list l.count l.v
