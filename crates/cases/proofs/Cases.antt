-- Every row of the table of cases holds, by computation. Demand 3 on three paths, whose premises are met, by computation too.
-- Assumes nothing.
use Rattle.std.specs.Prelude.{Ok}
use mathlib.Core.Path.{◌≡◌, refl}
use mathlib.Core.List.{List, [], ◌∷◌, ◌++◌}
use Prim.Native.Nat.{ℕ}
use borrow.Author.Rules.{rules}
use lib.Count.{ones, count_trailing_zeros}
use Rattle.cases.specs.Cases.{AllHold, P, Q, X, path2, path4, full_x, cases}
use Rattle.labels.specs.Checks.{check20}
use Rattle.planned.specs.Calls.{plan_of}
use Rattle.planbytes.specs.Plan.{plan_bytes}
use Rattle.routine.specs.Arrays.{array_of}
use Rattle.routine.specs.Layout.{header_of}
use Rattle.routine.specs.Reader.{read_of}
use Rattle.routine.proofs.Accepted.{accepted}
use Rattle.run.specs.Calls.{run_of}
use Rattle.demand.specs.Demand.{IsHome, IsCallers, Demand3}
use Rattle.demand.specs.Machine.{machine_after}
use Rattle.path.specs.Paths.{path_check}
use Rattle.walk.specs.Report.{report_bytes}
use Rattle.demand.specs.Run.{state_after, run_records}
use Rattle.demand.proofs.Demand.{demand3}
use Rattle.words.specs.Words.{word}

-- two proofs as one
infixr 5 ◌also◌
◌also◌ : {A B : Type 0} → A → B → A × B
◌also◌ a b = (a, b)

-- a row for each case, in the table's order
pub all_hold : AllHold cases
unfolding plan_of plan_bytes run_of machine_after report_bytes state_after run_records word ones count_trailing_zeros
all_hold =
    (refl, refl, refl)
    also (refl, refl, refl, refl, refl)
    also (refl, refl, refl)
    also (refl, refl, refl, refl, refl)
    also (refl, refl, refl, refl, refl)
    also (refl, refl, refl, refl, refl)
    also (λ size. refl, λ path size. refl)
    also (refl, refl, refl)
    also (refl, refl, refl)
    also (refl, refl, refl)
    also (refl, refl, refl, refl, refl)
    also (refl, refl, refl)
    also (refl, refl, refl, refl, refl)
    also (refl, refl, refl, refl, refl)
    also (refl, refl, refl)
    also (refl, refl, refl, refl, refl)
    also (refl, refl, refl)
    also (λ size. refl, λ path size. refl)
    also (refl, refl, refl)
    also (refl, refl, refl, refl, refl)
    also (λ size. refl, λ path size. refl)
    also (refl, refl, refl)
    also (refl, refl, refl, refl, refl)
    also tt

-- ---- demand 3

-- of a routine that is read and passes 20, and a path that passes
demanded : (file path : List ℕ) → read_of file ≡ Ok (header_of file) → path_check file path ≡ Ok tt → check20 file ≡ Ok tt → Demand3 file path
demanded file path read passed unwritten = demand3 file path (accepted file read).0 passed unwritten

-- case 2
pub demanded_2 : Demand3 P path2
unfolding read_of path_check check20 word
demanded_2 = demanded P path2 refl refl refl

-- Q to its exit, path 0 1 3 4 5: the inout argument is home
pub home_at_exit : IsHome Q (path4 ++ (5 ∷ 0 ∷ [])) 0
unfolding read_of path_check check20 array_of word
home_at_exit = (demanded Q (path4 ++ (5 ∷ 0 ∷ [])) refl refl refl).ends_home 0 (search rules) refl tt

-- X to its exit: the caller's copy of the in argument has stamp 65,535
pub callers_at_exit : IsCallers X full_x 0
unfolding read_of path_check check20 array_of word
callers_at_exit = (demanded X full_x refl refl refl).ends_callers 0 (search rules) refl tt
