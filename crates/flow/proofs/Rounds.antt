-- Laws of rounds, by any step: what each step keeps, rounds keep; and what two tables have in common, they keep in common.
-- Assumes nothing.
use mathlib.Core.Path.{◌≡◌, sym, ap, subst, ◌∙◌}
use mathlib.Core.Bool.{Bool, true, false}
use mathlib.Core.List.{List}
use Prim.Native.Nat.{ℕ, zero, suc, ◌-◌, ◌≤◌, ◌<◌}
use native.Mathlib.Nat.{le_refl, le_of_lt}
use native.Mathlib.Omega.{arith}
use lib.ListN.{length, get_or}
use Rattle.flow.specs.Order.{Order, natural}
use Rattle.flow.specs.Paths.{edge_count}
use Rattle.flow.specs.Solver.{near, far, turn, swept, rounds, Ends}
use Rattle.words.proofs.Tables.{table-length, table_at}

-- ---- turns

-- the edges by their numbers are an order
pub natural_order : (c : ℕ) → Order c (natural c)
natural_order c = record {
  all = table-length (λ i. i) c;
  within = λ j h. subst (λ (x : ℕ). x < c) (sym (table_at (λ i. i) c j h)) h;
  turn = λ i h. (i, h, table_at (λ i. i) c i h);
}

module _ {c : ℕ} {order : List ℕ} (ord : Order c order) where
  -- each turn takes an edge
  pub turn_lt : (along : Bool) (j : ℕ) → j < length order → turn order along j < c
  turn_lt true j h = ord.within _ (omega (arith, ord.all))
  turn_lt false j h = ord.within j (omega (arith, ord.all))

  -- when edge i is taken
  abbrev pub when : (along : Bool) (i : ℕ) → i < c → ℕ
  when true i h = length order - 1 - (ord.turn i h).0
  when false i h = (ord.turn i h).0

  pub when_lt : (along : Bool) (i : ℕ) (h : i < c) → when along i h < length order
  when_lt true i h = omega (arith, ord.all, (ord.turn i h).1)
  when_lt false i h = omega (arith, ord.all, (ord.turn i h).1)

  -- every edge has its turn
  pub turn_when : (along : Bool) (i : ℕ) (h : i < c) → turn order along (when along i h) ≡ i
  turn_when true i h =
      let back : length order - 1 - (length order - 1 - (ord.turn i h).0) ≡ (ord.turn i h).0 = omega (arith, ord.all, (ord.turn i h).1) in
      ap (λ (x : ℕ). get_or order x 0) back ∙ (ord.turn i h).2
  turn_when false i h = (ord.turn i h).2

-- the end whose set grows is a vertex
pub near_lt : {es : List ℕ} {n : ℕ} → Ends es n → (along : Bool) (i : ℕ) → i < edge_count es → near es along i < n
near_lt ends true i h = ends.froms i h
near_lt ends false i h = ends.tos i h

-- and so is the end that it grows from
pub far_lt : {es : List ℕ} {n : ℕ} → Ends es n → (along : Bool) (i : ℕ) → i < edge_count es → far es along i < n
far_lt ends true i h = ends.tos i h
far_lt ends false i h = ends.froms i h

-- ---- what each step keeps, rounds keep

module _ {c : ℕ} {order : List ℕ} (ord : Order c order) (along : Bool) (step : List ℕ → ℕ → List ℕ) (P : List ℕ → Type 0)
    (keeps : (s : List ℕ) (i : ℕ) → i < c → P s → P (step s i)) where
  pub swept_keeps : (s : List ℕ) → P s → (j : ℕ) → j ≤ length order → P (swept step order along s j)
  unfolding swept
  swept_keeps s h zero l = h
  swept_keeps s h (suc j) l = keeps (swept step order along s j) (turn order along j) (turn_lt ord along j l) (swept_keeps s h j (le_of_lt l))

  pub rounds_keeps : (s : List ℕ) → P s → (r : ℕ) → P (rounds step order along s r)
  unfolding rounds
  rounds_keeps s h zero = h
  rounds_keeps s h (suc r) = swept_keeps (rounds step order along s r) (rounds_keeps s h r) (length order) (le_refl (length order))

-- ---- two tables, by two steps

module _ {c : ℕ} {order : List ℕ} (ord : Order c order) (along : Bool) (step other : List ℕ → ℕ → List ℕ) (P : List ℕ → List ℕ → Type 0)
    (keeps : (s t : List ℕ) (i : ℕ) → i < c → P s t → P (step s i) (other t i)) where
  swept_both : (s t : List ℕ) → P s t → (j : ℕ) → j ≤ length order → P (swept step order along s j) (swept other order along t j)
  unfolding swept
  swept_both s t h zero l = h
  swept_both s t h (suc j) l = keeps _ _ (turn order along j) (turn_lt ord along j l) (swept_both s t h j (le_of_lt l))

  pub rounds_both : (s t : List ℕ) → P s t → (r : ℕ) → P (rounds step order along s r) (rounds other order along t r)
  unfolding rounds
  rounds_both s t h zero = h
  rounds_both s t h (suc r) = swept_both _ _ (rounds_both s t h r) (length order) (le_refl (length order))
