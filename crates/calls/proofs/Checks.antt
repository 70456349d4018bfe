-- What the checks leave of a file without calls, and of one with calls that passes 22, 20 and 21.
-- Assumes nothing.
use Rattle.std.specs.Prelude.{Ok}
use mathlib.Core.Path.{◌≡◌, ap, ◌∙◌}
use mathlib.Core.Bool.{true, false}
use mathlib.Core.List.{List}
use Prim.Native.Nat.{ℕ, zero, suc, ◌+◌, ◌*◌, ◌≤◌, ◌<◌}
use native.Mathlib.Nat.{mul-le-mul_right}
use native.Mathlib.Omega.{arith}
use borrow.Author.Tests.{le-leb}
use lib.ListN.{get_or}
use Rattle.labels.specs.Checks.{programmer_check}
use Rattle.refusal.proofs.Checks.{passed_left, passed_right}
use Rattle.routine.specs.Actions.{is_call}
use Rattle.routine.specs.Layout.{arrays, vertices, actions_at, action_at}
use Rattle.routine.specs.Reader.{WellFormed, read_check}
use Rattle.words.proofs.Sums.{each_fails, none_below}
use Rattle.calls.specs.Calls.{passes, is_call_row, has_calls}
use Rattle.calls.specs.Checks.{check22, calls_check}
use Rattle.calls.specs.Expanded.{expanded, routine_of}
use Rattle.calls.specs.Interfaces.{Expandable}
use Rattle.calls.specs.Parts.{expanded_vertices, first_vertex_of}
use Rattle.calls.specs.Referring.{referring}
use Rattle.calls.proofs.Calls.{routine_passes}
use Rattle.calls.proofs.Interfaces.{expandable}
use Rattle.calls.proofs.Parts.{first_zero, first_next, plain_last, size_is}
use Rattle.calls.proofs.Referring.{no_calls_same}

module _ (file : List ℕ) where
  -- ---- a file without calls is the routine that is planned and run

  module _ (none : has_calls file ≡ false) where
    pub none_passed : {a v : ℕ} → a < arrays file → v < vertices file → passes file a v ≡ false
    unfolding has_calls
    none_passed {a} {v} in_a in_v =
        let e : action_at file a v ≡ actions_at file + (v * arrays file + a) = omega arith in
        ap (λ (i : ℕ). is_call (get_or file i 0)) e
        ∙ each_fails (λ i. is_call (get_or file (actions_at file + i) 0)) (vertices file * arrays file) none (v * arrays file + a) (omega (arith, mul-le-mul_right (arrays file) in_v))

    no_call_row : {v : ℕ} → v < vertices file → is_call_row file v ≡ false
    unfolding is_call_row
    no_call_row {v} in_v = none_below (λ a. passes file a v) (arrays file) (λ a in_a. none_passed in_a in_v)

    as_many : (n : ℕ) → n ≤ vertices file → first_vertex_of file n ≡ n
    as_many zero h = first_zero file
    as_many (suc n) h = omega (arith, first_next file n, plain_last file n (no_call_row (omega arith)), as_many n (omega arith))

    pub no_calls_routine : routine_of file ≡ file
    unfolding routine_of
    no_calls_routine = rw none

    -- 22 passes, and then 20 and 21 are its own
    pub no_calls_check : WellFormed file → calls_check file ≡ programmer_check file
    unfolding calls_check check22
    no_calls_check w =
        let few : expanded_vertices file ≤ 256 = omega (arith, size_is file, as_many (vertices file) (omega arith), w.laid.limits.few_vertices) in
        rw (le-leb (expanded_vertices file) 256 few) (ap programmer_check (no_calls_same file w.laid none))

  -- ---- a file with calls is expanded; after 22, 20 and 21

  pub calls_expanded : has_calls file ≡ true → routine_of file ≡ expanded file
  unfolding routine_of
  calls_expanded some = rw some

  module _ (read : read_check file ≡ Ok tt) (passed : calls_check file ≡ Ok tt) where
    pub expandable_calls : Expandable file
    unfolding calls_check
    expandable_calls = expandable file read (passed_left (check22 file) (programmer_check (referring file)) passed)

    pub calls_referring : programmer_check (referring file) ≡ Ok tt
    unfolding calls_check
    calls_referring = passed_right (check22 file) (programmer_check (referring file)) passed

    -- 20 and 21 are passed by the routine that is planned and run
    pub calls_routine : programmer_check (routine_of file) ≡ Ok tt
    calls_routine = routine_passes file expandable_calls calls_referring
