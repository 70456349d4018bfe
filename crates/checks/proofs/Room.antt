-- The tables of any routine take less room than a value may.
-- Assumes nothing.
use Prim.Native.Nat.{ℕ, ◌+◌, ◌*◌, ◌≤◌, ◌<◌}
use native.Mathlib.Omega.{arith}
use prog.Memory.{up}

up_4 : (n : ℕ) → up 4 n ≤ n + 3
up_4 n = omega arith

up_2 : (n : ℕ) → up 2 n ≤ n + 1
up_2 n = omega arith

up_1 : (n : ℕ) → up 1 n ≤ n
up_1 n = omega arith

-- the fields of `Tables` in their order, each padded for the next
pub tables_fit : (cells edges : ℕ) → cells ≤ 2048 → edges ≤ 1192
    → up 4 (up 2 (up 2 (up 2 (up 4 (up 1 (up 2 (up 4 (0 + edges * 2) + cells * 4) + cells * 2) + cells * 1) + cells * 4) + cells * 2) + cells * 2) + cells * 2)
    < 9223372036854775808
tables_fit cells edges c e =
    let a = up_4 (0 + edges * 2) in
    let a1 = up 4 (0 + edges * 2) + cells * 4 in
    let b = up_2 a1 in
    let b1 = up 2 a1 + cells * 2 in
    let d = up_1 b1 in
    let d1 = up 1 b1 + cells * 1 in
    let f = up_4 d1 in
    let f1 = up 4 d1 + cells * 4 in
    let g = up_2 f1 in
    let g1 = up 2 f1 + cells * 2 in
    let h = up_2 g1 in
    let h1 = up 2 g1 + cells * 2 in
    let i = up_2 h1 in
    let i1 = up 2 h1 + cells * 2 in
    let j = up_4 i1 in
    omega (arith, a, b, d, f, g, h, i, j, c, e)
