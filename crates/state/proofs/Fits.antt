-- A state fits its types at the start, and one vertex keeps that.
-- Assumes nothing.
use mathlib.Core.Path.{◌≡◌, refl, ◌∙◌}
use mathlib.Core.Bool.{Bool}
use mathlib.Core.List.{List}
use mathlib.Core.Logic.{inl, inr}
use Prim.Native.Nat.{ℕ, zero, suc, ◌+◌, ◌≤◌, ◌<◌, ◌^◌}
use native.Mathlib.Omega.{arith}
use lib.Bits.{or_lt}
use lib.Dec.{lit<, lit≤}
use lib.ListN.{set, replicate, length-set}
use lib.Pow.{pow-lt}
use Rattle.routine.specs.Arrays.{is_in_or_inout}
use Rattle.labels.specs.declared.Use.{Use}
use Rattle.routine.specs.declared.action.Access.{Access}
use Rattle.routine.specs.declared.action.Access.TheVariants.{Read, Define, Modify, Kill}
use Rattle.routine.specs.declared.action.Action.{Action}
use Rattle.routine.specs.declared.action.Action.TheVariants.{Nothing, Reference, Remap, Unknown}
use Rattle.routine.specs.declared.array.ArrayRecord.{ArrayRecord}
use Rattle.sets.specs.Sets.{has, minus, width}
use Rattle.state.specs.Fits.{Stamps, Fits}
use Rattle.state.specs.Stamps.{stamp_after}
use Rattle.state.specs.Cleaning.{dying, callers, cleared, cleaned}
use Rattle.state.specs.Exit.{left}
use Rattle.state.specs.Moves.{moves, copies_stamp, target_stamp, moved}
use Rattle.state.specs.References.{referenced}
use Rattle.state.specs.Start.{started}
use Rattle.state.specs.States.{State, stamp_of, emptied, one_copy}
use Rattle.state.specs.Vertex.{labelled, visited}
use Rattle.words.proofs.Tables.{at_set, zeros_at}
use Rattle.words.proofs.Tests.{at_cond}
use Rattle.state.proofs.Exit.{at_left}

-- ---- lists of stamps

set_stamps : (l : List ℕ) (i x : ℕ) → Stamps l → x ≤ 65535 → Stamps (set l i x)
set_stamps l i x h g = record { wide = length-set l i x ∙ h.wide; small = λ k. at_set (λ _ y. y ≤ 65535) l i x k g (h.small k) }

zeros : Stamps (replicate width 0)
zeros = record { wide = refl; small = λ k. rw zeros_at (lit≤ tt) }

cleared_stamps : (dead : ℕ) (l : List ℕ) (n : ℕ) → Stamps l → Stamps (cleared dead l n)
unfolding cleared
cleared_stamps dead l zero h = h
cleared_stamps dead l (suc n) h =
    let g = cleared_stamps dead l n h in
    at_cond Stamps (has dead n) (λ _. set_stamps (cleared dead l n) n 0 g (lit≤ tt)) (λ _. g)

-- ---- states

emptied_fits : (copies n : ℕ) → copies ≤ n → Fits (emptied copies) n
emptied_fits copies n h = record { current = inr refl; live = lit< tt; stamps = zeros; copies = h }

one_fits : {k stamp copies n : ℕ} → k < width → stamp ≤ 65535 → copies ≤ n → Fits (one_copy k stamp copies) n
one_fits {k} {stamp} h g e = record { current = inl h; live = pow-lt h; stamps = set_stamps (replicate width 0) k stamp zeros g; copies = e }

pub started_fits : (r : ArrayRecord) → r.initial < width → Fits (started r) 0
started_fits r h =
    at_cond (λ (s : State). Fits s 0) (is_in_or_inout r.kind)
    (λ _. one_fits h (lit≤ tt) (lit≤ tt))
    (λ _. emptied_fits 0 0 (lit≤ tt))

longer : {s : State} {n : ℕ} → Fits s n → Fits s (suc n)
longer f = record { current = f.current; live = f.live; stamps = f.stamps; copies = omega arith }

left_fits : (r : ArrayRecord) → r.initial < width → (b : Bool) {s : State} {n : ℕ} → Fits s n → Fits (left r b s) n
left_fits r h b {s} {n} f =
    at_left r b s (λ (s' : State). Fits s' n) (λ _ _. one_fits h (f.stamps.small r.initial) f.copies) (λ _ _. emptied_fits s.copies n f.copies) f

cleaned_fits : (own keep : ℕ) {s : State} {n : ℕ} → Fits s n → Fits (cleaned own keep s) n
unfolding cleaned
cleaned_fits own keep {s} f =
    record {
      current = f.current;
      live = omega arith;
      stamps = cleared_stamps (minus (dying keep s) own) s.stamps width f.stamps;
      copies = f.copies;
    }

module _ (u : Use) (t : ℕ) (below : t < width) {s : State} {n : ℕ} (f : Fits s n) where
  target_small : target_stamp u t (stamp_of s s.current) s ≤ 65535
  unfolding copies_stamp
  target_small =
      at_cond (λ (x : ℕ). x ≤ 65535) (copies_stamp u t s)
      (λ _. f.stamps.small s.current)
      (λ _. at_cond (λ (x : ℕ). x ≤ 65535) (has s.live t) (λ _. f.stamps.small t) (λ _. lit≤ tt))

  moved_fits : Fits (moved u t s) (suc n)
  unfolding moved
  moved_fits =
      at_cond (λ (s' : State). Fits s' (suc n)) (moves u t s)
      (λ _. record {
        current = inl below;
        live = or_lt width s.live (2 ^ t) f.live (pow-lt below);
        stamps = set_stamps s.stamps t (target_stamp u t (stamp_of s s.current) s) f.stamps target_small;
        copies = at_cond (λ (x : ℕ). s.copies + x ≤ suc n) (copies_stamp u t s) (λ _. omega arith) (λ _. omega arith);
      })
      (λ _. longer f)

after_small : (x : Access) (step stamp : ℕ) → step ≤ 65535 → stamp ≤ 65535 → stamp_after x step stamp ≤ 65535
after_small Read step stamp h g = g
after_small Define step stamp h g = h
after_small Modify step stamp h g = h
after_small Kill step stamp h g = lit≤ tt

module _ (r : ArrayRecord) (u : Use) (keep : ℕ) {s : State} {n : ℕ} (short : n < 65535) (f : Fits s n) where
  visited_fits : (x : Action) → ((k : ℕ) → x ≡ Remap k → k < width) → Fits (visited r x u keep (n + 1) s) (suc n)
  unfolding referenced labelled
  visited_fits Nothing below = longer f
  visited_fits (Reference x) below =
      let stamp = stamp_of s s.current in
      let small = after_small x (n + 1) stamp (omega arith) (f.stamps.small s.current) in
      record {
        current = f.current;
        live = f.live;
        stamps = set_stamps s.stamps s.current (stamp_after x (n + 1) stamp) f.stamps small;
        copies = (longer f).copies;
      }
  visited_fits (Remap t) below = cleaned_fits (callers r) keep (moved_fits u t (below t refl) f)
  visited_fits Unknown below = longer f

  -- one vertex
  pub step_fits : r.initial < width → (b : Bool) (x : Action) → ((k : ℕ) → x ≡ Remap k → k < width) → Fits (left r b (visited r x u keep (n + 1) s)) (suc n)
  unfolding referenced labelled
  step_fits h b x below = left_fits r h b (visited_fits x below)
