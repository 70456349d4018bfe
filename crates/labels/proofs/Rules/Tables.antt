-- Tables, and what the solver's sets hold when both its lists are tables.
-- Assumes nothing.
use mathlib.Core.Path.{◌≡◌, sym, ap, subst, ◌∙◌}
use mathlib.Core.Bool.{Bool, true, false}
use mathlib.Core.List.{List}
use mathlib.Core.Logic.{◌↔◌, ⊎_elim}
use Prim.Native.Nat.{ℕ, ◌<◌}
use native.Mathlib.Omega.{arith}
use lib.Dec.{T, ltb, ltb→lt, nltb→le}
use lib.ListN.{get_or, get_or-eq_default}
use Rattle.sets.specs.Sets.{has}
use Rattle.flow.specs.Paths.{Path, last, next, Finds}
use Rattle.flow.specs.Solver.{Leads, Ends, solution}
use Rattle.words.proofs.Tests.{either}
use Rattle.flow.proofs.Paths.{path_ends}
use Rattle.flow.proofs.Exact.{exact}
use Rattle.words.specs.Tables.{table}
use Rattle.words.proofs.Tables.{table-length, table_at}

-- ---- tables

-- what holds of 0 and of every entry holds everywhere
pub table_all : (P : ℕ → Type 0) (f : ℕ → ℕ) (n : ℕ) → P 0 → ((u : ℕ) → P (f u)) → (u : ℕ) → P (get_or (table f n) u 0)
table_all P f n none each u = ⊎_elim
    (λ l. subst P (sym (table_at f n u (ltb→lt u n l))) (each u))
    (λ l. subst P (sym (get_or-eq_default (table f n) 0 (omega (arith, table-length f n, nltb→le u n l)))) none)
    (either (ltb u n))

-- ---- paths whose inner vertices pass tests that agree on the vertices

module _ {es : List ℕ} {n : ℕ} (ends : Ends es n) where
  path_same : {p q : ℕ → Bool} {v w : ℕ} → ((u : ℕ) → u < n → p u ≡ q u) → Path es p v w → Path es q v w
  path_same same (last e) = last e
  path_same same (next {u} e h t) = next e (subst T (same u (path_ends ends t).0) h) (path_same same t)

  leads_same : {p q : ℕ → Bool} (along : Bool) (v w : ℕ) → ((u : ℕ) → u < n → p u ≡ q u) → Leads es along p v w → Leads es along q v w
  leads_same true v w same t = path_same same t
  leads_same false v w same t = path_same same t

  leads_ends : (p : ℕ → Bool) (along : Bool) (v w : ℕ) → Leads es along p v w → w < n
  leads_ends p true v w t = (path_ends ends t).1
  leads_ends p false v w t = (path_ends ends t).0

-- ---- what the sets hold

-- where k is given exactly where Met holds, and then passed exactly where the test is, the set of v holds k exactly if such a path is found
pub solved : (es : List ℕ) (along : Bool) (gives passes : ℕ → ℕ) (n : ℕ) → Ends es n → (through : ℕ → Bool) (Met : ℕ → Type 0) (k : ℕ)
    → ((u : ℕ) → T (has (gives u) k) ↔ Met u) → ((w : ℕ) → Met w → (u : ℕ) → has (passes u) k ≡ through u)
    → (v : ℕ) → T (has (get_or (solution es along (table gives n) (table passes n) n) v 0) k) ↔ Finds (Leads es along through) Met v
solved es along gives passes n ends through Met k given passed v = (
  λ h. let o = (exact es along (table gives n) (table passes n) n ends v k).0 h in
      let l = leads_ends ends _ along v o.place o.way in
      let m = (given o.place).0 (rw table_at at o.met) in
      record { place = o.place; way = leads_same ends along v _ (same o.place m) o.way; met = m },
  λ f. let l = leads_ends ends _ along v f.place f.way in
      (exact es along (table gives n) (table passes n) n ends v k).1 (record {
        place = f.place;
        way = leads_same ends along v _ (λ u l. sym (same f.place f.met u l)) f.way;
        met = rw table_at ((given f.place).1 f.met);
      }),
)
  where
    same : (w : ℕ) → Met w → (u : ℕ) → u < n → has (get_or (table passes n) u 0) k ≡ through u
    same w m u l = ap (λ (x : ℕ). has x k) (table_at passes n u l) ∙ passed w m u
