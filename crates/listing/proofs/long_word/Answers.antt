-- `long_word` meets its contract: four bytes, or none beyond the end.
use mathlib.Core.Path.{◌≡◌, sym, ap, ◌∙◌}
use Prim.Native.Nat.{ℕ, ◌+◌}
use native.Mathlib.Omega.{arith}
use lib.ListN.{get_or}
use Rattle.words.specs.Words.{word, long_word}
use Rattle.listing.proofs.Words.{long_beyond}
use Rattle.listing.proofs.long_word.Goals as goal

pub returns-then-at-s : goal.returns-then-at-s
unfolding word long_word
returns-then-at-s c =
    omega (
      arith,
      c.from_le_bytes.ensures,
      c.byte.ensures,
      c.byte-then-at-s.ensures,
      c.byte-then-at-s-2.ensures,
      c.byte-then-at-s-3.ensures ∙ ap (λ (i : ℕ). get_or c.args.s.now i 0) (let e : c.args.at + 3 ≡ c.args.at + 2 + 1 = omega arith in e),
    )

pub returns : goal.returns
returns c = sym (long_beyond c.args.s.now c.args.at (omega arith))
