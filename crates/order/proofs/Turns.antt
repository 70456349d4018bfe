-- Laws of orders: a swap leaves every edge a place, and a place is a turn.
-- Assumes nothing.
use mathlib.Core.Path.{◌≡◌, sym, ap, subst, ◌∙◌}
use mathlib.Core.List.{List}
use Prim.Native.Nat.{ℕ, ◌≤◌, ◌<◌}
use native.Mathlib.Decide.{ℕ_discrete}
use native.Mathlib.Nat.{lt_of_lt_of_le}
use native.Mathlib.Omega.{arith}
use lib.ListN.{length, get_or, set, length-set}
use lib.Seq.{get_or-set_same, get_or-set_other}
use Rattle.words.proofs.Tables.{table-length, table_at, at_set}
use Rattle.flow.specs.Order.{Order, max_edges, natural}
use Rattle.flow.proofs.Rounds.{natural_order}
use Rattle.order.specs.Places.{Placed}

-- ---- the edges by their numbers

pub natural_placed : (c m : ℕ) (order place : List ℕ) → c ≤ m → m ≡ max_edges → order ≡ natural c → place ≡ natural m → Placed c order place
natural_placed c m order place most size e f = rw (e, f) (record {
  all = table-length (λ i. i) c;
  most = omega arith;
  room = table-length (λ i. i) m ∙ size;
  within = (natural_order c).within;
  known = λ i h. subst (λ (x : ℕ). x < c) (sym (table_at (λ i. i) m i (lt_of_lt_of_le h most))) h;
  stands = λ i h. ap (λ (x : ℕ). get_or (natural c) x 0) (table_at (λ i. i) m i (lt_of_lt_of_le h most)) ∙ table_at (λ i. i) c i h;
})

-- ---- places

-- an edge's place is its turn
pub placed_order : (c : ℕ) (order place : List ℕ) → Placed c order place → Order c order
placed_order c order place p =
    record { all = p.all; within = p.within; turn = λ i h. (get_or place i 0, p.known i h, p.stands i h) }

module _ (c : ℕ) (order place : List ℕ) (p : Placed c order place) (slot i : ℕ) (s : slot < c) (e : i < c) where
  -- where edge i stands, and the edge that stands in the slot
  at : ℕ
  at = get_or place i 0

  other : ℕ
  other = get_or order slot 0

  -- edge i takes the slot, and the other edge the place of edge i
  pub swapped : Placed c (set (set order (get_or place i 0) (get_or order slot 0)) slot i) (set (set place (get_or order slot 0) (get_or place i 0)) i slot)
  unfolding at other
  swapped =
      record {
        all = simp length-set p.all;
        most = p.most;
        room = simp length-set p.room;
        within = λ j h. at_set (λ _ x. x < c) (set order at other) slot i j e (at_set (λ _ x. x < c) order at other j (p.within slot s) (p.within j h));
        known = λ j h. at_set (λ _ x. x < c) (set place other at) i slot j s (at_set (λ _ x. x < c) place other at j (p.known i e) (p.known j h));
        stands = stand;
      }
    where
      at_room : at < length order
      at_room = omega (arith, p.all, p.known i e)

      slot_room : slot < length (set order at other)
      slot_room = simp length-set (omega (arith, p.all))

      other_room : other < length place
      other_room = omega (arith, p.room, p.most, p.within slot s)

      i_room : i < length (set place other at)
      i_room = simp length-set (omega (arith, p.room, p.most))

      order' : List ℕ
      order' = set (set order at other) slot i

      -- edge i
      first : get_or order' (get_or (set (set place other at) i slot) i 0) 0 ≡ i
      first =
          ap (λ (x : ℕ). get_or order' x 0) (get_or-set_same (set place other at) i slot 0 i_room)
          ∙ get_or-set_same (set order at other) slot i 0 slot_room

      -- the other edge, if it is another
      second : (other ≡ i → ⊥) → get_or order' (get_or (set place other at) other 0) 0 ≡ other
      second n =
          ap (λ (x : ℕ). get_or order' x 0) (get_or-set_same place other at 0 other_room)
          ∙ get_or-set_other (set order at other) slot at i 0 (λ h. n (sym (ap (λ (x : ℕ). get_or order x 0) h) ∙ p.stands i e))
          ∙ get_or-set_same order at other 0 at_room

      -- an edge that is neither stays
      third : (k : ℕ) → k < c → (k ≡ i → ⊥) → (k ≡ other → ⊥) → get_or order' (get_or place k 0) 0 ≡ k
      third k h n m =
          get_or-set_other (set order at other) slot (get_or place k 0) i 0 (λ q. m (sym (p.stands k h) ∙ ap (λ (x : ℕ). get_or order x 0) q))
          ∙ get_or-set_other order at (get_or place k 0) other 0 (λ q. n (sym (p.stands k h) ∙ ap (λ (x : ℕ). get_or order x 0) q ∙ p.stands i e))
          ∙ p.stands k h

      rest : (k : ℕ) → k < c → (k ≡ i → ⊥) → get_or order' (get_or (set place other at) k 0) 0 ≡ k
      rest k h n =
          elim (ℕ_discrete k other) [
            | yes q ↦ subst (λ (x : ℕ). get_or order' (get_or (set place other at) x 0) 0 ≡ x) (sym q) (second (λ r. n (q ∙ r)))
            | no m ↦ ap (λ (x : ℕ). get_or order' x 0) (get_or-set_other place other k at 0 m) ∙ third k h n m
          ]

      stand : (k : ℕ) → k < c → get_or order' (get_or (set (set place other at) i slot) k 0) 0 ≡ k
      stand k h =
          elim (ℕ_discrete k i) [
            | yes q ↦ subst (λ (x : ℕ). get_or order' (get_or (set (set place other at) i slot) x 0) 0 ≡ x) (sym q) first
            | no n ↦ ap (λ (x : ℕ). get_or order' x 0) (get_or-set_other (set place other at) i k slot 0 n) ∙ rest k h n
          ]
