-- The edges of a routine rise by from, then to: those from one vertex stand side by side and rise by to, and one at most joins two vertices.
-- Assumes nothing.
use mathlib.Core.Path.{◌≡◌}
use mathlib.Core.Bool.{true, and-eq-true_iff}
use mathlib.Core.List.{List}
use mathlib.Core.Logic.{⊎_elim}
use Prim.Native.Nat.{ℕ, zero, suc, ◌+◌, ◌*◌, ◌≤◌, ◌<◌}
use native.Mathlib.Nat.{eq-or-lt_of_le}
use native.Mathlib.Numerals.{add-one}
use native.Mathlib.Omega.{arith}
use borrow.Author.Tests.{eqb-true, ltb-true, leb-true, leb-false}
use lib.Dec.{eqb, ltb, leb}
use Rattle.path.specs.Paths.{joins}
use Rattle.routine.specs.Edges.{edge_of}
use Rattle.routine.specs.Layout.{edges}
use Rattle.routine.specs.Reader.{WellFormed}
use Rattle.routine.specs.declared.edge.Edge.{Edge}
use Rattle.words.proofs.Tests.{or_cases, by_test}

-- the ends of an edge that joins v to w
pub ends : (file : List ℕ) (v w n : ℕ) → joins file v w n ≡ true → ((edge_of file n).from ≡ v) × ((edge_of file n).to ≡ w)
ends file v w n e =
    let q = (and-eq-true_iff (eqb (edge_of file n).from v) _).0 e in
    (eqb-true (edge_of file n).from v q.0, eqb-true (edge_of file n).to w q.1)

-- an edge as one number, which rises as edges do
abbrev key : Edge → ℕ
key e = 65536 * e.from + e.to

module _ {file : List ℕ} (well : WellFormed file) where
  next_key : (i : ℕ) → suc i < edges file → key (edge_of file i) < key (edge_of file (suc i))
  next_key i h =
      let few = well.laid.limits.few_vertices in
      let here = well.edge_limits {i = i} (omega arith) in
      let d = edge_of file i in
      let e = edge_of file (suc i) in
      or_cases (ltb d.from e.from) _
      (λ l. omega (arith, ltb-true d.from e.from l, here.to_below))
      (λ b.
      let q = (and-eq-true_iff (eqb d.from e.from) _).0 b in
      omega (arith, eqb-true d.from e.from q.0, ltb-true d.to e.to q.1))
      (rw add-one at (well.edges_rise i (omega arith)))

  keys_rise : (i j : ℕ) → i < j → j < edges file → key (edge_of file i) < key (edge_of file j)
  keys_rise i zero l h = absurd (omega arith)
  keys_rise i (suc j) l h =
      ⊎_elim
      (λ (e : i ≡ j). rw (← e) (next_key i (omega arith)))
      (λ (m : i < j). omega (arith, keys_rise i j m (omega arith), next_key j h))
      (eq-or-lt_of_le {n = i} {m = j} (omega arith))

  -- no later edge leaves an earlier vertex
  pub from_rise : (i j : ℕ) → i < j → j < edges file → (edge_of file i).from ≤ (edge_of file j).from
  from_rise i j l h = omega (arith, keys_rise i j l h, (well.edge_limits {i = j} h).to_below, well.laid.limits.few_vertices)

  -- a later edge from the same vertex leads further
  pub to_rise : (i j : ℕ) → i < j → j < edges file → (edge_of file i).from ≡ (edge_of file j).from → (edge_of file i).to < (edge_of file j).to
  to_rise i j l h e = omega (arith, keys_rise i j l h)

  -- one edge at most joins two vertices
  pub only : (v w n p : ℕ) → n < edges file → p < edges file → joins file v w n ≡ true → joins file v w p ≡ true → n ≡ p
  only v w n p hn hp e f =
      let q = ends file v w n e in
      let r = ends file v w p f in
      let same : key (edge_of file n) ≡ key (edge_of file p) = omega (arith, q.0, q.1, r.0, r.1) in
      by_test (leb n p)
      (λ g. ⊎_elim (λ (x : n ≡ p). x) (λ (l : n < p). absurd (omega (arith, same, keys_rise n p l hp))) (eq-or-lt_of_le {n = n} {m = p} (leb-true n p g)))
      (λ g. absurd (omega (arith, same, keys_rise p n (leb-false n p g) hn)))
