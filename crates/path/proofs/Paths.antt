-- An accepted path: 1 to 4,096 vertices of the routine from the entry on, each joined to the next by an edge.
-- Assumes nothing.
use Rattle.std.specs.Prelude.{Ok}
use mathlib.Core.Path.{◌≡◌, sym, ap₂, ◌∙◌}
use mathlib.Core.Bool.{true, false≢true, and-eq-true_iff}
use mathlib.Core.List.{List}
use Prim.Native.Nat.{ℕ, zero, suc, ◌+◌, ◌-◌, ◌≤◌, ◌<◌}
use native.Mathlib.Omega.{arith}
use borrow.Author.Tests.{eqb-true}
use lib.Dec.{eqb}
use Rattle.flow.specs.Paths.{Edge}
use Rattle.labels.specs.Events.{edge_bytes}
use Rattle.labels.proofs.Rules.Proper.{edge_count_lem, edge_from_lem, edge_to_is}
use Rattle.routine.specs.Edges.{edge_of}
use Rattle.routine.specs.Layout.{vertices, edges, entry}
use Rattle.routine.specs.Reader.{WellFormed}
use Rattle.refusal.specs.Checks.{first_failed}
use Rattle.refusal.proofs.Checks.{holds_true, parts, shift, each_passed}
use Rattle.words.specs.Sums.{any_below}
use Rattle.words.proofs.Tests.{or_cases}
use Rattle.path.specs.Paths.{steps, vertex_at, joins, is_edge, arrival_check, check32, path_check}

module _ {file : List ℕ} (w : WellFormed file) where
  edge_there : (u v n : ℕ) → n ≤ edges file → any_below (joins file u v) n ≡ true → Edge (edge_bytes file) u v
  unfolding any_below
  edge_there u v zero h e = absurd (false≢true e)
  edge_there u v (suc n) h e =
      or_cases (any_below (joins file u v) n) (joins file u v n)
      (edge_there u v n (omega arith))
      (λ g.
      let q = (and-eq-true_iff (eqb (edge_of file n).from u) _).0 g in
      record {
        place = n;
        listed = omega (arith, edge_count_lem file w.laid);
        leaves = edge_from_lem file n ∙ eqb-true _ u q.0;
        enters = edge_to_is file n ∙ eqb-true _ v q.1;
      })
      e

-- an accepted path
pub record Walk (file path : List ℕ) : Type 0 where
  pub some : 1 ≤ steps path
  pub short : steps path ≤ 4096
  pub begins : vertex_at path 0 ≡ entry
  pub joined : (i : ℕ) → suc i < steps path → Edge (edge_bytes file) (vertex_at path i) (vertex_at path (suc i))

-- 32 as a scan from the first arrival on
pub arrivals : (file path : List ℕ) → first_failed (λ i. arrival_check file path (i + 1)) 0 (steps path - 1) ≡ check32 file path
unfolding check32
arrivals file path = sym (shift (arrival_check file path) 0 (steps path - 1))

arrives : (file path : List ℕ) (i : ℕ) → arrival_check file path (i + 1) ≡ Ok tt → is_edge file (vertex_at path i) (vertex_at path (suc i)) ≡ true
unfolding arrival_check
arrives file path i e =
    let here : i ≡ i + 1 - 1 = omega arith in
    let there : suc i ≡ i + 1 = omega arith in
    ap₂ (λ (j k : ℕ). is_edge file (vertex_at path j) (vertex_at path k)) here there ∙ holds_true _ _ e

pub walk : {file path : List ℕ} → WellFormed file → path_check file path ≡ Ok tt → Walk file path
unfolding path_check is_edge
walk {file} {path} w e =
    record {
      some = search parts;
      short = search parts;
      begins = search parts;
      joined = λ i h.
          let all : check32 file path ≡ Ok tt = search parts in
          let passed = each_passed (λ i. arrival_check file path (i + 1)) (steps path - 1) (arrivals file path ∙ all) i (omega arith) in
          edge_there w (vertex_at path i) (vertex_at path (suc i)) (edges file) (omega arith) (arrives file path i passed);
    }

-- its vertices are vertices of the routine
pub within-vertices : {file path : List ℕ} → WellFormed file → Walk file path → (i : ℕ) → i < steps path → vertex_at path i < vertices file
within-vertices w p zero h = omega (arith, p.begins, w.laid.limits)
within-vertices {file} w p (suc i) h =
    let e = p.joined i h in
    let listed : e.place < edges file = omega (arith, edge_count_lem file w.laid, e.listed) in
    omega (arith, w.edge_limits listed, edge_to_is file e.place, e.enters)
