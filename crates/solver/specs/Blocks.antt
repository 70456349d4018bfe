-- How the code keeps it: blocks of edges. A block is pending if one of its edges may alter a set; an edge alters none while its far end is
-- as it was when the edge was last taken.
-- Assumes nothing.
use Rattle.std.specs.Prelude.{◌≡◌, Bool, true, false, List, ◌⊎◌, ℕ, ◌+◌, ◌*◌, ◌/◌, ◌≤◌, ◌<◌, min, length, get_or}
use Rattle.std.specs.Int.Bits.{bit_or}
use Rattle.flow.specs.Solver.{near, far, turn, relaxed_row, swept, Altered}
use Rattle.sets.specs.Sets.{has}
use Rattle.solver.specs.declared.Progress.{Progress}

-- how many turns a block has; 64 blocks hold all edges
abbrev pub block_size : ℕ
block_size = 19

-- the block of turn j
abbrev pub block_of : ℕ → ℕ
block_of j = j / block_size

-- where block b begins, or where all c turns end
abbrev pub block_start : ℕ → ℕ → ℕ
block_start c b = min (block_size * b) c

-- r is the first member of a set of 64 blocks from b on, or 64
pub record NextPending (pending b r : ℕ) : Type 0 where
  pub onward : b ≤ r
  pub most : r ≤ 64
  pub shut : (k : ℕ) → b ≤ k → k < r → has pending k ≡ false
  pub found : r < 64 → has pending r ≡ true

-- each edge's block is marked at its far end
pub record Marked (es order : List ℕ) (along : Bool) (marks : List ℕ) : Type 0 where
  pub each : (j : ℕ) → j < length order → has (get_or marks (far es along (turn order along j)) 0) (block_of j) ≡ true

-- no turn alters the sets but those of pending blocks, and those from `from` up to `to`
abbrev pub Closed : List ℕ → List ℕ → Bool → List ℕ → List ℕ → ℕ → ℕ → List ℕ → ℕ → Type 0
Closed es order along gives passes from to sets pending =
    (j : ℕ) → j < length order → has pending (block_of j) ≡ false → (j < from) ⊎ (to ≤ j) → relaxed_row es along gives passes sets (turn order along j) ≡ sets

-- turn j taken: the sets that it should leave, and the blocks that are pending if it altered a set
pub record Took (es order : List ℕ) (along : Bool) (gives passes marks : List ℕ) (j : ℕ) (before : List ℕ) (p : Progress) (after : List ℕ) (q : Progress) : Type 0 where
  pub sets : after ≡ relaxed_row es along gives passes before (turn order along j)
  pub next :
      ((after ≡ before) × (q ≡ p))
      ⊎ ((after ≡ before → ⊥) × (q ≡ record { pending = bit_or p.pending (get_or marks (near es along (turn order along j)) 0); altered = true }))

-- a round at work over pending blocks: the first j turns have been taken, or would have altered nothing; those up to `to` come next
pub record Taken (es order : List ℕ) (along : Bool) (gives passes old : List ℕ) (j to : ℕ) (sets : List ℕ) (p : Progress) : Type 0 where
  pub is : sets ≡ swept (relaxed_row es along gives passes) order along old j
  pub told : Altered p.altered old sets
  pub closed : Closed es order along gives passes j to sets p.pending

-- block b taken, whatever the round did before
pub record TookBlock (es order : List ℕ) (along : Bool) (gives passes : List ℕ) (b : ℕ) (before : List ℕ) (p : Progress) (after : List ℕ) (q : Progress) : Type 0 where
  pub goes : (old : List ℕ)
      → Taken es order along gives passes old (block_start (length order) b) (block_start (length order) b) before p
      → Taken es order along gives passes old (block_start (length order) (b + 1)) (block_start (length order) (b + 1)) after q
  pub size : length after ≡ length before
