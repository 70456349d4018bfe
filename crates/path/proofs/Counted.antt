-- The path while it is checked: what the test says of each step, and the counts, none at the start, and one more for the edge of each step.
-- Assumes nothing.
use Rattle.std.specs.Prelude.{Ok, Err}
use mathlib.Core.Path.{◌≡◌, sym, ap, ◌∙◌}
use mathlib.Core.Bool.{Bool, true, false, cond, true≢false}
use mathlib.Core.List.{List}
use Prim.Native.Nat.{ℕ, suc, ◌+◌, ◌-◌, ◌≤◌, ◌<◌}
use native.Mathlib.Numerals.{add-one}
use native.Mathlib.Omega.{arith}
use borrow.Author.Tests.{eqb-true, eqb-false}
use lib.Dec.{eqb}
use lib.ListN.{length, get_or, set, replicate, length-set, length-replicate, get_or-replicate}
use lib.Seq.{get_or-set_same, get_or-set_other, ext_get_or}
use Rattle.path.specs.Passes.{passes_up_to}
use Rattle.path.specs.Paths.{vertex_at, joins, is_edge, arrival_check}
use Rattle.path.proofs.Rising.{only}
use Rattle.refusal.specs.declared.Refusal.{Refusal}
use Rattle.refusal.specs.declared.Refusal.TheVariants.{NoSuchEdge}
use Rattle.refusal.specs.Checks.{Verdict}
use Rattle.routine.specs.Layout.{edges}
use Rattle.routine.specs.Reader.{WellFormed}
use Rattle.words.specs.Sums.{total}
use Rattle.words.specs.Tables.{table}
use Rattle.words.proofs.Sums.{count_few, each_fails}
use Rattle.words.proofs.Tables.{table-length, table_at}
use Rattle.words.proofs.Tests.{by_test}

pub passes_few : (file path : List ℕ) (k n : ℕ) → passes_up_to file path k n ≤ k
unfolding passes_up_to
passes_few file path k n = count_few (λ i. joins file (vertex_at path i) (vertex_at path (suc i)) n) k

pub passes_none : (file path : List ℕ) (n : ℕ) → passes_up_to file path 0 n ≡ 0
passes_none file path n = omega (arith, passes_few file path 0 n)

-- one step more
passes_more : (file path : List ℕ) (k n : ℕ) {b : Bool} → joins file (vertex_at path k) (vertex_at path (suc k)) n ≡ b → passes_up_to file path (suc k) n ≡ passes_up_to file path k n + cond b 1 0
unfolding passes_up_to total
passes_more file path k n e = ap (λ (b : Bool). total (λ i. cond (joins file (vertex_at path i) (vertex_at path (suc i)) n) 1 0) k + cond b 1 0) e

-- ---- what the test says of a step

pub no_arrival : (file path : List ℕ) (i : ℕ) → is_edge file (vertex_at path i) (vertex_at path (i + 1)) ≡ false → Err (NoSuchEdge (i + 1)) ≡ arrival_check file path (i + 1)
unfolding arrival_check
no_arrival file path i e = let back : i + 1 - 1 ≡ i = omega arith in rw (back, e)

pub arrival : (file path : List ℕ) (i : ℕ) {n : ℕ} → n < edges file → joins file (vertex_at path i) (vertex_at path (i + 1)) n ≡ true → (Ok tt) ≡ arrival_check file path (i + 1)
unfolding arrival_check is_edge
arrival file path i {n} h joined =
    let back : i + 1 - 1 ≡ i = omega arith in
    let test = joins file (vertex_at path i) (vertex_at path (i + 1)) in
    let there : is_edge file (vertex_at path i) (vertex_at path (i + 1)) ≡ true =
    by_test (is_edge file (vertex_at path i) (vertex_at path (i + 1))) (λ t. t) (λ f. absurd (true≢false (sym joined ∙ each_fails test (edges file) f n h))) in
    rw (back, there)

-- a check that fails does not pass
pub never : {v : Verdict} {r : Refusal} → v ≡ Err r → v ≡ Ok tt → ⊥
never e f = let z : ◌≡◌ {A = ℕ} 0 1 = cc in omega arith

-- ---- the counts

-- no edge is passed before the first step
pub counts_begin : (file path : List ℕ) {taken : List ℕ} → taken ≡ replicate (edges file) 0 → taken ≡ table (passes_up_to file path 0) (edges file)
counts_begin file path {taken} e =
    ext_get_or 0 taken (table (passes_up_to file path 0) (edges file)) (sized ∙ sym (table-length _ (edges file)))
    (λ n h.
    let l : n < edges file = omega (arith, sized) in
    ap (λ (t : List ℕ). get_or t n 0) e ∙ get_or-replicate (edges file) n 0 0 l ∙ sym (passes_none file path n) ∙ sym (table_at (passes_up_to file path 0) (edges file) n l))
  where
    sized : length taken ≡ edges file
    sized = ap length e ∙ length-replicate (edges file) 0

-- one more at the edge that the step passes
module _ (file path : List ℕ) (i : ℕ) {taken : List ℕ} {p : ℕ} (well : WellFormed file) (are : taken ≡ table (passes_up_to file path i) (edges file)) (listed : p < edges file) where
  pub counts-length : length taken ≡ edges file
  counts-length = ap length are ∙ table-length _ (edges file)

  pub count_at : get_or taken p 0 ≡ passes_up_to file path i p
  count_at = ap (λ (t : List ℕ). get_or t p 0) are ∙ table_at (passes_up_to file path i) (edges file) p listed

  pub counts_next : joins file (vertex_at path i) (vertex_at path (i + 1)) p ≡ true → set taken p (get_or taken p 0 + 1) ≡ table (passes_up_to file path (i + 1)) (edges file)
  counts_next arrives =
      ext_get_or 0 (set taken p (get_or taken p 0 + 1)) (table (passes_up_to file path (i + 1)) (edges file)) (same_length ∙ counts-length ∙ sym (table-length _ (edges file)))
      (λ n h. let l : n < edges file = omega (arith, same_length, counts-length) in at n l ∙ ap (λ (k : ℕ). passes_up_to file path k n) (sym (add-one i)) ∙ sym (table_at (passes_up_to file path (i + 1)) (edges file) n l))
    where
      joined : joins file (vertex_at path i) (vertex_at path (suc i)) p ≡ true
      joined = ap (λ (k : ℕ). joins file (vertex_at path i) (vertex_at path k) p) (sym (add-one i)) ∙ arrives

      same_length : length (set taken p (get_or taken p 0 + 1)) ≡ length taken
      same_length = simp length-set

      at : (n : ℕ) → n < edges file → get_or (set taken p (get_or taken p 0 + 1)) n 0 ≡ passes_up_to file path (suc i) n
      at n l =
          by_test (eqb n p)
          (λ t.
          let e = eqb-true n p t in
          ap (λ (m : ℕ). get_or (set taken p (get_or taken p 0 + 1)) m 0) e ∙ get_or-set_same taken p (get_or taken p 0 + 1) 0 (omega (arith, counts-length))
          ∙ ap (λ (m : ℕ). m + 1) count_at ∙ sym (passes_more file path i p joined) ∙ ap (passes_up_to file path (suc i)) (sym e))
          (λ f.
          let ne = eqb-false n p f in
          let not-joined : joins file (vertex_at path i) (vertex_at path (suc i)) n ≡ false = by_test (joins file (vertex_at path i) (vertex_at path (suc i)) n) (λ g. absurd (ne (only well (vertex_at path i) (vertex_at path (suc i)) n p l listed g joined))) (λ g. g) in
          let none : passes_up_to file path i n ≡ passes_up_to file path i n + 0 = omega arith in
          get_or-set_other taken p n (get_or taken p 0 + 1) 0 ne ∙ ap (λ (t : List ℕ). get_or t n 0) are ∙ table_at (passes_up_to file path i) (edges file) n l
          ∙ none ∙ sym (passes_more file path i n not-joined))
