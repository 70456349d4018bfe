-- Directive files and what they become, by computation: figures of document 003, as many versions as the limit and one more, and readings of
-- request 4.
-- Assumes nothing.
use Rattle.std.specs.Prelude.{Ok, Err}
use mathlib.Core.Path.{◌≡◌, refl}
use mathlib.Core.List.{List, [], ◌∷◌, ◌++◌}
use Prim.Native.Nat.{ℕ, zero, suc, ◌+◌, ◌-◌, ◌*◌}
use lib.Count.{ones}
use lib.ListN.{length, take, drop, replicate}
use Rattle.refusal.specs.declared.Refusal.TheVariants.{TooManyMappings, TwoMappings}
use Rattle.routine.specs.Actions.{action_of}
use Rattle.sets.specs.Sets.{width, bit}
use Rattle.words.specs.Tables.{rows}
use Rattle.words.specs.Words.{word, bytes16}
use Rattle.directives.specs.Fields.{check40}
use Rattle.directives.specs.Layout.{arrays, vertices}
use Rattle.mappings.specs.Computed.{check41, check42, converted}

-- ---- directive files

-- a dimension not spread, by block, by cyclic(b) with b below 256
abbrev undivided : List ℕ
undivided = 0 ∷ 0 ∷ 0 ∷ 0 ∷ []

abbrev block : List ℕ
block = 1 ∷ 0 ∷ 0 ∷ 0 ∷ []

abbrev cyclic : ℕ → List ℕ
cyclic b = 2 ∷ 0 ∷ b ∷ 0 ∷ []

-- an array of kind k, aligned with template 0, straight
abbrev array : ℕ → List ℕ
array k = k ∷ 0 ∷ 0 ∷ 0 ∷ []

-- a vertex, but for the bytes 0 that end it: with references, without, with a directive
abbrev references : List ℕ → List ℕ
references bytes = undivided ++ (undivided ++ (undivided ++ bytes))

abbrev none : List ℕ
none = []

abbrev realign : ℕ → ℕ → ℕ → List ℕ
realign a t e = 1 ∷ a ∷ t ∷ e ∷ []

abbrev redistribute : ℕ → List ℕ → List ℕ
redistribute t spread = 2 ∷ t ∷ 0 ∷ 0 ∷ spread

-- an edge, and one from each of the first n vertices to the next
abbrev edge : ℕ → ℕ → List ℕ
edge v w = bytes16 v ++ bytes16 w

abbrev chain : ℕ → List (List ℕ)
chain zero = []
chain (suc n) = chain n ++ edge n (suc n) ∷ []

-- lists of n bytes each, one after the other
abbrev all : ℕ → List (List ℕ) → List ℕ
all n [] = []
all n (x ∷ xs) = x ++ (replicate (n - length x) 0 ++ all n xs)

-- templates, arrays, vertices, edges
abbrev file_of : List (List ℕ) → List (List ℕ) → List (List ℕ) → List (List ℕ) → List ℕ
file_of ts xs vs es =
    let size = 12 + length xs in
    let arrays_at = 22 + 8 * length ts in
    let vertices_at = arrays_at + 4 * length xs in
    72 ∷ 80 ∷ 70 ∷ 68 ∷ 1 ∷ 0 ∷ []
    ++ (bytes16 22 ++ (bytes16 (length ts)
    ++ (bytes16 arrays_at ++ (bytes16 (length xs)
    ++ (bytes16 vertices_at ++ (bytes16 (length vs)
    ++ (bytes16 (vertices_at + length vs * size) ++ (bytes16 (length es)
    ++ (all 8 ts ++ (all 4 xs ++ (all size vs ++ all 4 es)))))))))))

-- ---- what they become

-- array records and rows of the converted routine
abbrev body : List ℕ → List ℕ
body file = take ((4 + vertices file) * arrays file) (drop 18 (converted file))

abbrev Becomes : List ℕ → List ℕ → Type 0
Becomes file bytes = (check40 file ≡ Ok tt) × (check41 file ≡ Ok tt) × (check42 file ≡ Ok tt) × (body file ≡ bytes)

abbrev InTwoAt : List ℕ → ℕ → ℕ → Type 0
InTwoAt file v a = (check40 file ≡ Ok tt) × (check41 file ≡ Ok tt) × (check42 file ≡ Err (TwoMappings v a))

-- ---- figures of document 003

-- 1: a realign with exchange, then a redistribute: three versions
figure1 : Becomes
    (file_of ((block ++ undivided) ∷ []) (array 0 ∷ [])
    (none ∷ realign 0 0 1 ∷ redistribute 0 (cyclic 1 ++ undivided) ∷ references (0x10 ∷ []) ∷ none ∷ [])
    (chain 4))
    (0 ∷ 3 ∷ 0 ∷ 0
    ∷ 0x00 ∷ 0x41 ∷ 0x42 ∷ 0x10 ∷ 0x00 ∷ [])
unfolding check40 check41 check42 converted rows word bit ones action_of
figure1 = (refl, refl, refl, refl)

-- 2: the redistribute restores the initial mapping
figure2 : Becomes
    (file_of ((block ++ undivided) ∷ []) (array 0 ∷ [])
    (none ∷ realign 0 0 1 ∷ redistribute 0 (undivided ++ block) ∷ references (0x10 ∷ []) ∷ none ∷ [])
    (chain 4))
    (0 ∷ 2 ∷ 0 ∷ 0
    ∷ 0x00 ∷ 0x41 ∷ 0x40 ∷ 0x10 ∷ 0x00 ∷ [])
unfolding check40 check41 check42 converted rows word bit ones action_of
figure2 = (refl, refl, refl, refl)

-- 3: a redistribute remaps all five arrays that are aligned with its template
figure3 : Becomes
    (file_of ((block ++ undivided) ∷ []) (array 0 ∷ array 0 ∷ array 0 ∷ array 0 ∷ array 0 ∷ [])
    (none ∷ references (0x10 ∷ 0x10 ∷ 0x10 ∷ 0x10 ∷ 0x10 ∷ []) ∷ redistribute 0 (cyclic 1 ++ undivided)
    ∷ references (0x10 ∷ 0x00 ∷ 0x00 ∷ 0x10 ∷ 0x00 ∷ []) ∷ none ∷ [])
    (chain 4))
    (0 ∷ 2 ∷ 0 ∷ 0 ∷ 0 ∷ 2 ∷ 0 ∷ 0 ∷ 0 ∷ 2 ∷ 0 ∷ 0 ∷ 0 ∷ 2 ∷ 0 ∷ 0 ∷ 0 ∷ 2 ∷ 0 ∷ 0
    ∷ 0x00 ∷ 0x00 ∷ 0x00 ∷ 0x00 ∷ 0x00
    ∷ 0x10 ∷ 0x10 ∷ 0x10 ∷ 0x10 ∷ 0x10
    ∷ 0x41 ∷ 0x41 ∷ 0x41 ∷ 0x41 ∷ 0x41
    ∷ 0x10 ∷ 0x00 ∷ 0x00 ∷ 0x10 ∷ 0x00
    ∷ 0x00 ∷ 0x00 ∷ 0x00 ∷ 0x00 ∷ 0x00 ∷ [])
unfolding check40 check41 check42 converted rows word bit ones action_of
figure3 = (refl, refl, refl, refl)

-- 5: whether a redistribute remaps the array depends on the path
figure5 : InTwoAt
    (file_of ((block ++ undivided) ∷ (undivided ++ block) ∷ []) (array 0 ∷ [])
    (none ∷ references (0x10 ∷ []) ∷ realign 0 1 0 ∷ references (0x10 ∷ []) ∷ redistribute 1 (cyclic 1 ++ undivided) ∷ references (0x10 ∷ [])
    ∷ none ∷ [])
    (edge 0 1 ∷ edge 1 2 ∷ edge 1 4 ∷ edge 2 3 ∷ edge 3 4 ∷ edge 4 5 ∷ edge 5 6 ∷ []))
    4 0
unfolding check40 check41 check42 converted rows word bit ones action_of
figure5 = (refl, refl, refl)

-- 6: two mappings meet where nothing refers to the array
figure6 : Becomes
    (file_of ((block ++ undivided) ∷ []) (array 0 ∷ [])
    (none ∷ references (0x10 ∷ []) ∷ redistribute 0 (cyclic 1 ++ undivided) ∷ references (0x10 ∷ []) ∷ redistribute 0 (cyclic 10 ++ undivided)
    ∷ references (0x10 ∷ []) ∷ none ∷ [])
    (edge 0 1 ∷ edge 1 2 ∷ edge 1 4 ∷ edge 2 3 ∷ edge 3 4 ∷ edge 4 5 ∷ edge 5 6 ∷ []))
    (0 ∷ 3 ∷ 0 ∷ 0
    ∷ 0x00 ∷ 0x10 ∷ 0x41 ∷ 0x10 ∷ 0x42 ∷ 0x10 ∷ 0x00 ∷ [])
unfolding check40 check41 check42 converted rows word bit ones action_of
figure6 = (refl, refl, refl, refl)

-- 10: an inout argument and two local arrays aligned with it; two branches, then a loop: four versions of each
figure10 : Becomes
    (file_of ((block ++ undivided) ∷ []) (array 3 ∷ array 0 ∷ array 0 ∷ [])
    (none ∷ references (0x10 ∷ 0x20 ∷ 0x00 ∷ []) ∷ references (0x00 ∷ 0x10 ∷ 0x00 ∷ []) ∷ redistribute 0 (cyclic 1 ++ undivided)
    ∷ references (0x30 ∷ 0x10 ∷ 0x00 ∷ []) ∷ redistribute 0 (block ++ block) ∷ references (0x10 ∷ 0x00 ∷ 0x00 ∷ [])
    ∷ redistribute 0 (block ++ undivided) ∷ references (0x10 ∷ 0x00 ∷ 0x20 ∷ []) ∷ redistribute 0 (undivided ++ block)
    ∷ references (0x30 ∷ 0x00 ∷ 0x10 ∷ []) ∷ none ∷ [])
    (edge 0 1 ∷ edge 1 2 ∷ edge 2 3 ∷ edge 2 5 ∷ edge 3 4 ∷ edge 4 7 ∷ edge 4 11 ∷ edge 5 6 ∷ edge 6 7 ∷ edge 6 11 ∷ edge 7 8 ∷ edge 8 9
    ∷ edge 9 10 ∷ edge 10 7 ∷ edge 10 11 ∷ []))
    (3 ∷ 4 ∷ 0 ∷ 0 ∷ 0 ∷ 4 ∷ 0 ∷ 0 ∷ 0 ∷ 4 ∷ 0 ∷ 0
    ∷ 0x00 ∷ 0x00 ∷ 0x00 ∷ 0x10 ∷ 0x20 ∷ 0x00 ∷ 0x00 ∷ 0x10 ∷ 0x00 ∷ 0x41 ∷ 0x41 ∷ 0x41
    ∷ 0x30 ∷ 0x10 ∷ 0x00 ∷ 0x42 ∷ 0x42 ∷ 0x42 ∷ 0x10 ∷ 0x00 ∷ 0x00 ∷ 0x40 ∷ 0x40 ∷ 0x40
    ∷ 0x10 ∷ 0x00 ∷ 0x20 ∷ 0x43 ∷ 0x43 ∷ 0x43 ∷ 0x30 ∷ 0x00 ∷ 0x10 ∷ 0x00 ∷ 0x00 ∷ 0x00 ∷ [])
unfolding check40 check41 check42 converted rows word bit ones action_of
figure10 = (refl, refl, refl, refl)

-- 13: other mappings in two branches, then the initial one again
figure13 : Becomes
    (file_of ((block ++ undivided) ∷ []) (array 0 ∷ [])
    (none ∷ references (0x10 ∷ []) ∷ redistribute 0 (cyclic 1 ++ undivided) ∷ references (0x20 ∷ []) ∷ redistribute 0 (cyclic 2 ++ undivided)
    ∷ references (0x10 ∷ []) ∷ redistribute 0 (block ++ undivided) ∷ references (0x10 ∷ []) ∷ none ∷ [])
    (edge 0 1 ∷ edge 1 2 ∷ edge 1 4 ∷ edge 2 3 ∷ edge 3 6 ∷ edge 4 5 ∷ edge 5 6 ∷ edge 6 7 ∷ edge 7 8 ∷ []))
    (0 ∷ 3 ∷ 0 ∷ 0
    ∷ 0x00 ∷ 0x10 ∷ 0x41 ∷ 0x20 ∷ 0x42 ∷ 0x10 ∷ 0x40 ∷ 0x10 ∷ 0x00 ∷ [])
unfolding check40 check41 check42 converted rows word bit ones action_of
figure13 = (refl, refl, refl, refl)

-- 21: the array is aligned straight or exchanged
figure21 : InTwoAt
    (file_of ((undivided ++ block) ∷ []) (array 0 ∷ [])
    (none ∷ realign 0 0 1 ∷ redistribute 0 (block ++ undivided) ∷ none ∷ [])
    (edge 0 1 ∷ edge 0 2 ∷ edge 1 2 ∷ edge 2 3 ∷ []))
    2 0
unfolding check40 check41 check42 converted rows word bit ones action_of
figure21 = (refl, refl, refl)

-- ---- the limit

-- block, then cyclic(1) to cyclic(n), one after the other
abbrev spreads : ℕ → List (List ℕ)
spreads zero = []
spreads (suc n) = spreads n ++ redistribute 0 (cyclic (suc n) ++ undivided) ∷ []

abbrev spread : ℕ → List ℕ
spread n = file_of ((block ++ undivided) ∷ []) (array 0 ∷ []) (none ∷ (spreads n ++ none ∷ [])) (chain (suc n))

at_limit : (check40 (spread (width - 1)) ≡ Ok tt) × (check41 (spread (width - 1)) ≡ Ok tt)
unfolding check40 check41 rows word bit action_of
at_limit = (refl, refl)

above_limit : (check40 (spread width) ≡ Ok tt) × (check41 (spread width) ≡ Err (TooManyMappings 0))
unfolding check40 check41 rows word bit action_of
above_limit = (refl, refl)

-- ---- readings

-- a path that brings the array aligned with another template leaves it in its old mapping
elsewhere : InTwoAt
    (file_of ((block ++ undivided) ∷ (undivided ++ block) ∷ []) (array 0 ∷ [])
    (none ∷ realign 0 1 0 ∷ redistribute 0 (cyclic 2 ++ undivided) ∷ references (0x10 ∷ []) ∷ none ∷ [])
    (edge 0 1 ∷ edge 0 2 ∷ edge 1 2 ∷ edge 2 3 ∷ edge 3 4 ∷ []))
    2 0
unfolding check40 check41 check42 converted rows word bit ones action_of
elsewhere = (refl, refl, refl)

-- the same where that is the mapping which the redistribute gives
agreeing : Becomes
    (file_of ((block ++ undivided) ∷ (cyclic 2 ++ undivided) ∷ []) (array 0 ∷ [])
    (none ∷ realign 0 1 0 ∷ redistribute 0 (cyclic 2 ++ undivided) ∷ references (0x10 ∷ []) ∷ none ∷ [])
    (edge 0 1 ∷ edge 0 2 ∷ edge 1 2 ∷ edge 2 3 ∷ edge 3 4 ∷ []))
    (0 ∷ 2 ∷ 0 ∷ 0
    ∷ 0x00 ∷ 0x41 ∷ 0x41 ∷ 0x10 ∷ 0x00 ∷ [])
unfolding check40 check41 check42 converted rows word bit ones action_of
agreeing = (refl, refl, refl, refl)

-- a redistribute that remaps nothing becomes a row of 00, and still changes what a later realign gives
unaligned : Becomes
    (file_of ((block ++ undivided) ∷ (block ++ undivided) ∷ []) (array 0 ∷ [])
    (none ∷ redistribute 1 (cyclic 2 ++ undivided) ∷ realign 0 1 0 ∷ references (0x10 ∷ []) ∷ none ∷ [])
    (chain 4))
    (0 ∷ 2 ∷ 0 ∷ 0
    ∷ 0x00 ∷ 0x00 ∷ 0x41 ∷ 0x10 ∷ 0x00 ∷ [])
unfolding check40 check41 check42 converted rows word bit ones action_of
unaligned = (refl, refl, refl, refl)

-- a directive that no path reaches gives no version, and its row becomes 00
unreached : Becomes
    (file_of ((block ++ undivided) ∷ []) (array 0 ∷ [])
    (none ∷ redistribute 0 (cyclic 2 ++ undivided) ∷ references (0x10 ∷ []) ∷ none ∷ [])
    (edge 0 2 ∷ edge 1 2 ∷ edge 2 3 ∷ []))
    (0 ∷ 1 ∷ 0 ∷ 0
    ∷ 0x00 ∷ 0x00 ∷ 0x10 ∷ 0x00 ∷ [])
unfolding check40 check41 check42 converted rows word bit ones action_of
unreached = (refl, refl, refl, refl)

-- a directive that leaves the mapping as it was is still a remapping
repeated : Becomes
    (file_of ((block ++ undivided) ∷ []) (array 0 ∷ [])
    (none ∷ redistribute 0 (block ++ undivided) ∷ references (0x10 ∷ []) ∷ none ∷ [])
    (chain 3))
    (0 ∷ 1 ∷ 0 ∷ 0
    ∷ 0x00 ∷ 0x40 ∷ 0x10 ∷ 0x00 ∷ [])
unfolding check40 check41 check42 converted rows word bit ones action_of
repeated = (refl, refl, refl, refl)
