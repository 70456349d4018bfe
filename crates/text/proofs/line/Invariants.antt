-- `text::line` meets its contract. The invariant: the first i cells stand at the front, and `at` is how long these are.
-- Assumes nothing.
use mathlib.Core.Path.{◌≡◌}
use lib.ListN.{length}
use Rattle.words.specs.Tables.{rows}
use Rattle.words.proofs.Buffers.{Filled}
use Rattle.text.specs.Text.{cell}
use Rattle.text.proofs.line.Given as goal

abbrev pub invariant-loop-i : goal.invariant-loop-i
invariant-loop-i l =
    Filled (cell l.columns) (length l.columns) l.initial.out l.i l.out × (l.at ≡ length (rows (cell l.columns) l.i))
