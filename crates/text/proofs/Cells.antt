-- No column has more than 20 bytes, and no cell more than 21.
-- Assumes nothing.
use mathlib.Core.Bool.{cond}
use mathlib.Core.List.{List, [], ◌∷◌}
use Prim.Native.Nat.{ℕ, zero, suc, ◌*◌, ◌/◌, ◌%◌, ◌≤◌, zero-le}
use native.Mathlib.Omega.{arith}
use lib.Dec.{eqb, ltb}
use lib.ListN.{length, get_or, length-append}
use Rattle.io.specs.Digits.{hex_digit_ascii}
use Rattle.words.specs.Tables.{rows}
use Rattle.words.proofs.Tables.{rows_most}
use Rattle.words.proofs.Tests.{at_cond}
use Rattle.text.specs.Text.{decimal_in, decimal, version_text, column_text, separator, cell}
use Rattle.text.specs.declared.Column.{Column}
use Rattle.text.specs.declared.Column.TheVariants.{Number, Character, Version, Mask}
use Rattle.text.proofs.Digits.{mask-length}

decimal_most : (k n : ℕ) → length (decimal_in k n) ≤ k
decimal_most zero n = zero-le
decimal_most (suc k) n =
    let front : length (cond (ltb n 10) [] (decimal_in k (n / 10))) ≤ k = at_cond (λ l. length l ≤ k) (ltb n 10) (λ _. zero-le) (λ _. decimal_most k (n / 10)) in
    omega (arith, length-append (cond (ltb n 10) [] (decimal_in k (n / 10))) (hex_digit_ascii (n % 10) ∷ []), front)

number_most : (n : ℕ) → length (decimal n) ≤ 20
unfolding decimal
number_most n = decimal_most 20 n

-- at most 20 bytes
abbrev Short : List ℕ → Type 0
Short l = length l ≤ 20

version_most : (n : ℕ) → length (version_text n) ≤ 20
unfolding version_text
version_most n = at_cond Short (eqb n 255) {x = 45 ∷ []} (λ _. omega arith) (λ _. number_most n)

pub column_most : (column : Column) → length (column_text column) ≤ 20
column_most (Number n) = number_most n
column_most (Character n) = omega arith
column_most (Version n) = version_most n
column_most (Mask n) = omega (arith, mask-length n)

pub cell_most : (columns : List Column) (i : ℕ) → length (cell columns i) ≤ 21
cell_most columns i =
    let column = get_or columns i (Number 0) in
    omega (arith, length-append (column_text column) (separator i (length columns) ∷ []), column_most column)

pub cells_most : (columns : List Column) (i : ℕ) → length (rows (cell columns) i) ≤ 21 * i
cells_most columns i = rows_most (cell columns) 21 (cell_most columns) i
