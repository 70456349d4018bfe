-- Numbers beyond the end of a list of bytes are 0.
-- Assumes nothing.
use mathlib.Core.Path.{◌≡◌, ap₂}
use mathlib.Core.List.{List}
use Prim.Native.Nat.{ℕ, ◌+◌, ◌*◌, ◌≤◌}
use native.Mathlib.Omega.{arith}
use lib.ListN.{length, get_or-eq_default}
use Rattle.words.specs.Words.{word, long_word}

pub word_beyond : (s : List ℕ) (at : ℕ) → length s ≤ at → word s at ≡ 0
unfolding word
word_beyond s at h =
    ap₂ (λ (low high : ℕ). low + 256 * high) (get_or-eq_default s 0 h) (get_or-eq_default s 0 {n = at + 1} (omega arith))

pub long_beyond : (s : List ℕ) (at : ℕ) → length s ≤ at → long_word s at ≡ 0
unfolding long_word
long_beyond s at h = ap₂ (λ (low high : ℕ). low + 65536 * high) (word_beyond s at h) (word_beyond s (at + 2) (omega arith))
