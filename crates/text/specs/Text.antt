-- Numbers as text, in ASCII, and columns of a line.
-- Assumes nothing.
use Rattle.std.specs.Prelude.{cond, List, [], ◌∷◌, ◌++◌, ℕ, zero, suc, ◌+◌, ◌/◌, ◌%◌, eqb, ltb, length, get_or}
use Rattle.io.specs.Digits.{hex_digit_ascii, last_digits}
use Rattle.text.specs.declared.Column.{Column}
use Rattle.text.specs.declared.Column.TheVariants.{Number, Character, Version, Mask}
use Rattle.words.specs.Tables.{rows}

-- ---- numbers

-- a number in decimal, without zeros in front, if k digits hold it
abbrev pub decimal_in : ℕ → ℕ → List ℕ
decimal_in zero n = []
decimal_in (suc k) n = cond (ltb n 10) [] (decimal_in k (n / 10)) ++ (hex_digit_ascii (n % 10) ∷ [])

-- 20 digits hold every 64-bit number
unfoldable pub decimal : ℕ → List ℕ
decimal n = decimal_in 20 n

-- a mask as eight hexadecimal digits
unfoldable pub mask_text : ℕ → List ℕ
mask_text n = last_digits 16 8 (n % 4294967296)

-- a version; 255 is none, and shown as `-`
unfoldable pub version_text : ℕ → List ℕ
version_text n = cond (eqb n 255) (45 ∷ []) (decimal n)

-- a column as its variant asks
abbrev pub column_text : Column → List ℕ
column_text (Number n) = decimal n
column_text (Character n) = n % 256 ∷ []
column_text (Version n) = version_text n
column_text (Mask n) = mask_text n

-- ---- lines: a space after each column, a line feed after the last

-- after column i of n
abbrev pub separator : ℕ → ℕ → ℕ
separator i n = cond (eqb (i + 1) n) 10 32

-- column i and its separator
abbrev pub cell : List Column → ℕ → List ℕ
cell columns i = column_text (get_or columns i (Number 0)) ++ (separator i (length columns) ∷ [])

-- a line of columns
abbrev pub line : List Column → List ℕ
line columns = rows (cell columns) (length columns)
