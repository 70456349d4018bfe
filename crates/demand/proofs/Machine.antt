-- The machine is fed the arrays, the action bytes and the path, and nothing else of the file.
-- Assumes nothing.
use mathlib.Core.Path.{◌≡◌, ap, ap₂, ◌∙◌}
use mathlib.Core.Bool.{◌&&◌, ◌||◌, cond}
use mathlib.Core.List.{List}
use Prim.Native.Nat.{ℕ, zero, suc, ◌+◌, ◌-◌, ◌≤◌, ◌<◌}
use native.Mathlib.Omega.{arith}
use lib.Dec.{eqb}
use Rattle.labels.specs.Events.{event}
use Rattle.path.specs.Paths.{steps, vertex_at}
use Rattle.report.specs.Records.{records_at, by_step}
use Rattle.routine.specs.Actions.{action_of, action_byte, action}
use Rattle.routine.specs.Arrays.{array_of, is_out_or_inout}
use Rattle.routine.specs.Layout.{arrays, vertices, entry}
use Rattle.routine.specs.declared.action.Action.{Action}
use Rattle.routine.specs.declared.action.Action.TheVariants.{Remap}
use Rattle.routine.specs.declared.array.ArrayRecord.{ArrayRecord}
use Rattle.demand.specs.Machine.{Machine, machine_start, machine_step, machine_after, machine_records, FedAlike}
use Rattle.words.proofs.Tables.{rows_same}

module _ {file other path : List ℕ} (alike : FedAlike file other path) where
  -- the same actions are the same events
  event-alike : (a v : ℕ) → a < arrays file → v < vertices file → event file a v ≡ event other a v
  unfolding event action
  event-alike a v in_a in_v =
      ap₂ (λ (n : ℕ) (r : ArrayRecord). cond (eqb v entry || (eqb v (n - 1) && is_out_or_inout r.kind)) (Remap r.initial) (action_of (action_byte file a v)))
      alike.same_vertices (alike.same_records a in_a)
      ∙ ap (λ (b : ℕ). cond (eqb v entry || (eqb v (vertices other - 1) && is_out_or_inout (array_of other a).kind)) (Remap (array_of other a).initial) (action_of b))
      (alike.same_actions a v in_a in_v)

  -- the machine of array a is the same after each step
  pub machine_alike : (a : ℕ) → a < arrays file → (n : ℕ) → n ≤ steps path → machine_after file path a n ≡ machine_after other path a n
  unfolding machine_after
  machine_alike a in_a zero h = ap machine_start (alike.same_records a in_a)
  machine_alike a in_a (suc i) h =
      ap₂ (λ (x : Action) (m : Machine). machine_step x (i + 1) m)
      (event-alike a (vertex_at path i) in_a (alike.own_vertices i (omega arith))) (machine_alike a in_a i (omega arith))

  -- and so are its records
  pub records_alike : machine_records file path ≡ machine_records other path
  unfolding machine_records
  records_alike =
      rows_same _ _ (steps path) (λ i h. rows_same _ _ (arrays file) (λ a in_a.
      ap₂ (λ (x : Action) (m : Machine). records_at x (i + 1) a m.held m.stamp)
      (event-alike a (vertex_at path i) in_a (alike.own_vertices i h)) (machine_alike a in_a i (omega arith))))
      ∙ ap (λ (n : ℕ).
      by_step (λ i a. records_at (event other a (vertex_at path i)) (i + 1) a (machine_after other path a i).held (machine_after other path a i).stamp)
      n (steps path)) alike.same_arrays
