-- `word_at` meets its contract: two bytes below 256.
use mathlib.Core.Path.{ap₂}
use Prim.Native.Nat.{ℕ, ◌+◌, ◌*◌}
use native.Mathlib.Omega.{arith}
use Rattle.words.specs.Words.{word}
use Rattle.directives.proofs.field.word_at.Goals as goal

pub returns : goal.returns
unfolding word
returns c =
    record {
      value = ap₂ (λ (x y : ℕ). x + 256 * y) c.byte_at.ensures.value c.byte_at-2.ensures.value;
      upper_bound = omega (arith, c.byte_at.ensures.upper_bound, c.byte_at-2.ensures.upper_bound);
    }
