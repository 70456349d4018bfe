-- An accepted path passes one edge at each step but the first: the passes of all edges are its length less one.
-- Assumes nothing.
use Rattle.std.specs.Prelude.{Ok}
use mathlib.Core.Path.{◌≡◌, sym, ap, ◌∙◌}
use mathlib.Core.Bool.{Bool, true, cond, true≢false, and-eq-true_iff}
use mathlib.Core.List.{List}
use Prim.Native.Nat.{ℕ, suc, ◌-◌, ◌*◌, ◌<◌}
use native.Mathlib.Omega.{arith}
use borrow.Author.Tests.{eq-eqb, ne_eqb}
use lib.Dec.{eqb}
use Rattle.labels.proofs.Rules.Proper.{edge_count_lem, edge_from_lem, edge_to_is}
use Rattle.path.specs.Passes.{passes_up_to, Counts}
use Rattle.path.specs.Paths.{steps, vertex_at, joins, path_check}
use Rattle.path.proofs.Counted.{passes_few}
use Rattle.path.proofs.Paths.{walk}
use Rattle.path.proofs.Rising.{only}
use Rattle.routine.specs.Layout.{edges}
use Rattle.routine.specs.Reader.{WellFormed}
use Rattle.words.specs.Sums.{count_of}
use Rattle.words.proofs.Sums.{total_same, total_const, total-turned, count_once}
use Rattle.words.proofs.Tests.{by_test}

-- a test that passes at p alone counts 1
count_one : (test : ℕ → Bool) (n p : ℕ) → p < n → ((i : ℕ) → i < n → test i ≡ eqb p i) → count_of test n ≡ 1
count_one test n p h same = total_same (λ i. cond (test i) 1 0) (λ i. cond (eqb p i) 1 0) n (λ i l. rw (same i l)) ∙ count_once p n h

module _ {file : List ℕ} (path : List ℕ) (well : WellFormed file) (passed : path_check file path ≡ Ok tt) where
  -- each step passes one edge
  one_edge : (i : ℕ) → i < steps path - 1 → count_of (joins file (vertex_at path i) (vertex_at path (suc i))) (edges file) ≡ 1
  one_edge i h =
      let d = (walk well passed).joined i (omega arith) in
      let listed : d.place < edges file = omega (arith, edge_count_lem file well.laid, d.listed) in
      let joined : joins file (vertex_at path i) (vertex_at path (suc i)) d.place ≡ true =
      (and-eq-true_iff _ _).1 (eq-eqb _ _ (sym (edge_from_lem file d.place) ∙ d.leaves), eq-eqb _ _ (sym (edge_to_is file d.place) ∙ d.enters)) in
      count_one (joins file (vertex_at path i) (vertex_at path (suc i))) (edges file) d.place listed
      (λ n l. by_test (joins file (vertex_at path i) (vertex_at path (suc i)) n)
      (λ t. t ∙ sym (eq-eqb d.place n (sym (only well (vertex_at path i) (vertex_at path (suc i)) n d.place l listed t joined))))
      (λ f. f ∙ sym (ne_eqb d.place n (λ e. true≢false (sym joined ∙ ap (joins file (vertex_at path i) (vertex_at path (suc i))) e ∙ f)))))

  pub path_counts : Counts file path
  unfolding passes_up_to
  path_counts = record {
    all =
        total-turned (λ n i. cond (joins file (vertex_at path i) (vertex_at path (suc i)) n) 1 0) (steps path - 1) (edges file)
        ∙ total_same (λ i. count_of (joins file (vertex_at path i) (vertex_at path (suc i))) (edges file)) (λ i. 1) (steps path - 1) one_edge
        ∙ total_const 1 (steps path - 1)
        ∙ (let e : 1 * (steps path - 1) ≡ steps path - 1 = omega arith in e);
    each = λ n. omega (arith, passes_few file path (steps path - 1) n, (walk well passed).short);
  }
