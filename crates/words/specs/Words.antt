-- 16-bit numbers in a list of bytes: unsigned, low byte first.
-- Assumes nothing.
use Rattle.std.specs.Prelude.{List, [], ◌∷◌, ℕ, ◌+◌, ◌*◌, ◌/◌, ◌%◌, get_or}

-- the number whose first byte stands at `at`
unfoldable pub word : List ℕ → ℕ → ℕ
word s at = get_or s at 0 + 256 * get_or s (at + 1) 0

-- a number as its two bytes
abbrev pub bytes16 : ℕ → List ℕ
bytes16 n = n % 256 ∷ n / 256 ∷ []

-- 32 bits: the number whose first byte stands at `at`
unfoldable pub long_word : List ℕ → ℕ → ℕ
unfolding word
long_word s at = word s at + 65536 * word s (at + 2)

-- as its four bytes
abbrev pub bytes32 : ℕ → List ℕ
bytes32 n = n % 256 ∷ n / 256 % 256 ∷ n / 65536 % 256 ∷ n / 16777216 ∷ []
