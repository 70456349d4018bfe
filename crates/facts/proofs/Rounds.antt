-- The number of rounds of a pass over the edges of a directive file.
-- Assumes nothing.
use mathlib.Core.Path.{◌≡◌, sym, subst}
use mathlib.Core.Bool.{Bool, false}
use mathlib.Core.List.{List}
use Prim.Native.Nat.{ℕ, ◌≤◌, ◌<◌}
use native.Mathlib.Omega.{arith}
use Rattle.words.specs.Tables.{with_row}
use Rattle.flow.specs.Cells.{Cells, NoneBeyond}
use Rattle.flow.specs.Counted.{StopsAfter}
use Rattle.flow.specs.Solver.{Rounds}
use Rattle.flow.proofs.Cells.{none_row}
use Rattle.flow.proofs.Counted.{stops_after}
use Rattle.directives.specs.Layout.{vertices, edge_bytes}
use Rattle.directives.specs.Read.{ReadFile}
use Rattle.mappings.specs.Tables.{EdgeOrder}
use Rattle.mappings.proofs.Formed.{formed}
use Rattle.facts.specs.Counted.{Stops}

pub pass_stops : {m : ℕ} {order gives passes : List ℕ} {r : ℕ} (G P : ℕ → ℕ → ℕ) (d : ReadFile) → m ≤ 8 → EdgeOrder d.bytes order
    → Cells m (vertices d.bytes) G gives → Cells m (vertices d.bytes) P passes → NoneBeyond m (vertices d.bytes) gives
    → Rounds (edge_bytes d.bytes) order false gives passes (vertices d.bytes) r → Stops d.bytes m G P r
pass_stops {order = order} {gives} {passes} G P d few ord g p none h =
    stops_after (edge_bytes d.bytes) order false gives passes (vertices d.bytes) G P few ord (formed d.bytes d.passed).ends g p none h

-- a row replaced leaves nothing beyond the columns
pub none_next : {m n : ℕ} {s t : List ℕ} → m ≤ 8 → (r : ℕ → ℕ) (w : ℕ) → NoneBeyond m n s → t ≡ with_row s w r m → NoneBeyond m n t
none_next {m} {n} few r w h e = subst (NoneBeyond m n) (sym e) (none_row few r w h)

-- eight columns are all
pub none_beyond : (n : ℕ) (s : List ℕ) → NoneBeyond 8 n s
none_beyond n s = record { empty = λ a v out col in_v. absurd (omega arith) }

-- columns that are alike stop together: fewer of them after as many rounds
pub stops_alike : {es : List ℕ} {along : Bool} {k m n r : ℕ} (g p : ℕ → ℕ) → 0 < m → m ≤ k → StopsAfter es along k n (λ a. g) (λ a. p) r → StopsAfter es along m n (λ a. g) (λ a. p) r
stops_alike g p some few h = record {
  order = h.order;
  ordered = h.ordered;
  some = h.some;
  most = h.most;
  altered = λ j l. (0, some, (h.altered j l).2);
  still = λ a in_a. h.still a (omega arith);
}
