-- Document 01, "Who can cause a refusal": the first place at fault; places that are a vertex and an array go first by vertex, then by array.
-- Assumes nothing.
use Rattle.std.specs.Prelude.{Bool, not, ℕ, ◌<◌}
use Rattle.refusal.specs.declared.Refusal.{Refusal}
use Rattle.refusal.specs.Checks.{Verdict, holds, first_failed}

-- item i is the first of n at which a fault stands
pub record FirstOf (Fault : ℕ → Type 0) (n i : ℕ) : Type 0 where
  pub within : i < n
  pub fault : Fault i
  pub none_earlier : (j : ℕ) → j < i → Fault j → ⊥

-- the first vertex, and there the first array, at which a fault stands
unfoldable pub first_fault : (ℕ → ℕ → Bool) → (ℕ → ℕ → Refusal) → ℕ → ℕ → Verdict
unfolding first_failed
first_fault fault refusal vertices arrays =
    first_failed (λ v. first_failed (λ a. holds (not (fault v a)) (refusal v a)) 0 arrays) 0 vertices

-- that place is vertex v and array a: a fault stands there, and none at an earlier vertex or an earlier array of v
pub record FirstFault (Fault : ℕ → ℕ → Type 0) (vertices arrays v a : ℕ) : Type 0 where
  pub vertex : v < vertices
  pub array : a < arrays
  pub fault : Fault v a
  pub none_earlier : (u b : ℕ) → u < v → b < arrays → Fault u b → ⊥
  pub none_there : (b : ℕ) → b < a → Fault v b → ⊥
