-- `word` meets its contract: two bytes, or none beyond the end.
use mathlib.Core.Path.{sym}
use native.Mathlib.Omega.{arith}
use Rattle.words.specs.Words.{word}
use Rattle.listing.proofs.Words.{word_beyond}
use Rattle.listing.proofs.word.Goals as goal

pub returns-then-at-s : goal.returns-then-at-s
unfolding word
returns-then-at-s c = omega (arith, c.from_le_bytes.ensures, c.byte.ensures, c.byte-then-at-s.ensures)

pub returns : goal.returns
returns c = sym (word_beyond c.args.s.now c.args.at (omega arith))
