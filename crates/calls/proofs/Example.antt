-- A routine with a call, and its expanded routine, by computation: three local arrays; 1 defines them, 2 remaps the third to version 1, 3
-- passes them in version 1 as in, in version 0 as out, in version 2 as inout, 4 reads them.
-- Assumes nothing.
use mathlib.Core.Path.{◌≡◌, refl}
use mathlib.Core.List.{List, [], ◌∷◌}
use Prim.Native.Nat.{ℕ}
use lib.Count.{count_trailing_zeros}
use Rattle.sets.specs.Sets.{bit}
use Rattle.words.specs.Words.{word}
use Rattle.calls.specs.Expanded.{expanded}

abbrev called : List ℕ
called =
    72 ∷ 80 ∷ 70 ∷ 82 ∷ 1 ∷ 0 ∷ 18 ∷ 0 ∷ 3 ∷ 0 ∷ 30 ∷ 0 ∷ 6 ∷ 0 ∷ 48 ∷ 0 ∷ 5 ∷ 0
    ∷ 0 ∷ 2 ∷ 0 ∷ 0 ∷ 0 ∷ 2 ∷ 1 ∷ 0 ∷ 0 ∷ 3 ∷ 0 ∷ 0
    ∷ 0x00 ∷ 0x00 ∷ 0x00 ∷ 0x20 ∷ 0x20 ∷ 0x20 ∷ 0x00 ∷ 0x00 ∷ 0x41 ∷ 0x61 ∷ 0xa0 ∷ 0xc2 ∷ 0x10 ∷ 0x10 ∷ 0x10 ∷ 0x00 ∷ 0x00 ∷ 0x00
    ∷ 0 ∷ 0 ∷ 1 ∷ 0 ∷ 1 ∷ 0 ∷ 2 ∷ 0 ∷ 2 ∷ 0 ∷ 3 ∷ 0 ∷ 3 ∷ 0 ∷ 4 ∷ 0 ∷ 4 ∷ 0 ∷ 5 ∷ 0 ∷ []

by_computation :
    expanded called
    ≡ 72 ∷ 80 ∷ 70 ∷ 82 ∷ 1 ∷ 0 ∷ 18 ∷ 0 ∷ 3 ∷ 0 ∷ 30 ∷ 0 ∷ 8 ∷ 0 ∷ 54 ∷ 0 ∷ 7 ∷ 0
    ∷ 0 ∷ 2 ∷ 0 ∷ 0 ∷ 0 ∷ 2 ∷ 1 ∷ 0 ∷ 0 ∷ 3 ∷ 0 ∷ 0
    ∷ 0x00 ∷ 0x00 ∷ 0x00 ∷ 0x20 ∷ 0x20 ∷ 0x20 ∷ 0x00 ∷ 0x00 ∷ 0x41 ∷ 0x41 ∷ 0x40 ∷ 0x42 ∷ 0x10 ∷ 0x20 ∷ 0x30 ∷ 0x40 ∷ 0x41 ∷ 0x41 ∷ 0x10 ∷ 0x10 ∷ 0x10 ∷ 0x00 ∷ 0x00 ∷ 0x00
    ∷ 0 ∷ 0 ∷ 1 ∷ 0 ∷ 1 ∷ 0 ∷ 2 ∷ 0 ∷ 2 ∷ 0 ∷ 3 ∷ 0 ∷ 3 ∷ 0 ∷ 4 ∷ 0 ∷ 4 ∷ 0 ∷ 5 ∷ 0 ∷ 5 ∷ 0 ∷ 6 ∷ 0 ∷ 6 ∷ 0 ∷ 7 ∷ 0 ∷ []
unfolding expanded word bit count_trailing_zeros
by_computation = refl
