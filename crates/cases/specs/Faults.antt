-- Document 01, "How a contract is judged" (c): wrong programs, by what they would answer and leave in the buffer.
-- Assumes nothing.
use Rattle.std.specs.Prelude.{List, [], ◌∷◌, ℕ, replicate, Err}
use Rattle.planned.specs.Calls.{Planned}
use Rattle.planbytes.specs.Plan.{plan_bytes}
use Rattle.refusal.specs.declared.Refusal.{Refusal}
use Rattle.refusal.specs.Replies.{Reply}
use Rattle.run.specs.Calls.{Ran}
use Rattle.cases.specs.Cases.{P, path2}

-- a buffer of zeros
abbrev pub zeros : ℕ → List ℕ
zeros n = replicate n 0

-- ---- planners

-- one that refuses all routines: no refusal meets the contract on P
abbrev pub RefusesAll : Type 0
RefusesAll = (r : Refusal) (after : List ℕ) → Planned P (zeros 88) (Err r) after → ⊥

-- P with nothing at 3: as many labels as P, at the same vertices
abbrev pub P_with_nothing : List ℕ
P_with_nothing =
    72 ∷ 80 ∷ 70 ∷ 82 ∷ 1 ∷ 0 ∷ 18 ∷ 0 ∷ 1 ∷ 0 ∷ 22 ∷ 0 ∷ 8 ∷ 0 ∷ 30 ∷ 0 ∷ 8 ∷ 0
    ∷ 0 ∷ 3 ∷ 0 ∷ 0
    ∷ 0x00 ∷ 0x20 ∷ 0x41 ∷ 0x00 ∷ 0x42 ∷ 0x40 ∷ 0x10 ∷ 0x00
    ∷ 0 ∷ 0 ∷ 1 ∷ 0 ∷ 1 ∷ 0 ∷ 2 ∷ 0 ∷ 2 ∷ 0 ∷ 3 ∷ 0 ∷ 3 ∷ 0 ∷ 4 ∷ 0
    ∷ 4 ∷ 0 ∷ 5 ∷ 0 ∷ 5 ∷ 0 ∷ 6 ∷ 0 ∷ 6 ∷ 0 ∷ 2 ∷ 0 ∷ 6 ∷ 0 ∷ 7 ∷ 0
    ∷ []

-- one that issues P's plan for all
abbrev pub PlanOfPForAll : Type 0
PlanOfPForAll = (reply : Reply) → Planned P_with_nothing (zeros 88) reply (plan_bytes P) → ⊥

-- one that writes nothing
abbrev pub WritesNoPlan : Type 0
WritesNoPlan = (reply : Reply) → Planned P (zeros 88) reply (zeros 88) → ⊥

-- ---- runners, on case 2

-- one that works step 1 and then invents records: the define at step 2 gives stamp 1
abbrev pub InventsRecords : Type 0
InventsRecords =
    (reply : Reply) → Ran P path2 (zeros 64) reply (
    1 ∷ 0 ∷ 3 ∷ 0 ∷ 0 ∷ 0 ∷ 1 ∷ 0
    ∷ 2 ∷ 0 ∷ 0 ∷ 0 ∷ 2 ∷ 0 ∷ 0 ∷ 0 ∷ 1 ∷ 0
    ∷ 4 ∷ 0 ∷ 0 ∷ 1 ∷ 1 ∷ 0 ∷ 1 ∷ 0 ∷ 0 ∷ 0
    ∷ 7 ∷ 0 ∷ 0 ∷ 0 ∷ 1 ∷ 0 ∷ 1 ∷ 0 ∷ 0 ∷ 0
    ∷ 9 ∷ 0 ∷ 0 ∷ 1 ∷ 1 ∷ 0 ∷ 1 ∷ 0 ∷ 0 ∷ 0
    ∷ 1 ∷ 0 ∷ 1 ∷ 0 ∷ 2 ∷ 0 ∷ 1 ∷ 0 ∷ 1 ∷ 0 ∷ 1 ∷ 0 ∷ 1 ∷ 0 ∷ 0 ∷ 0
    ∷ []
    ) → ⊥

-- one whose report has invented copy counts: no copy
abbrev pub InventsCopies : Type 0
InventsCopies =
    (reply : Reply) → Ran P path2 (zeros 64) reply (
    0 ∷ 0 ∷ 3 ∷ 0 ∷ 0 ∷ 0 ∷ 1 ∷ 0
    ∷ 2 ∷ 0 ∷ 0 ∷ 0 ∷ 2 ∷ 0 ∷ 0 ∷ 0 ∷ 2 ∷ 0
    ∷ 4 ∷ 0 ∷ 0 ∷ 1 ∷ 1 ∷ 0 ∷ 2 ∷ 0 ∷ 0 ∷ 0
    ∷ 7 ∷ 0 ∷ 0 ∷ 0 ∷ 1 ∷ 0 ∷ 2 ∷ 0 ∷ 0 ∷ 0
    ∷ 9 ∷ 0 ∷ 0 ∷ 1 ∷ 1 ∷ 0 ∷ 2 ∷ 0 ∷ 0 ∷ 0
    ∷ 1 ∷ 0 ∷ 1 ∷ 0 ∷ 2 ∷ 0 ∷ 1 ∷ 0 ∷ 1 ∷ 0 ∷ 1 ∷ 0 ∷ 1 ∷ 0 ∷ 0 ∷ 0
    ∷ []
    ) → ⊥

-- one whose counts count the first step too: the entry as passed along the first edge
abbrev pub CountsFirstStep : Type 0
CountsFirstStep =
    (reply : Reply) → Ran P path2 (zeros 64) reply (
    1 ∷ 0 ∷ 3 ∷ 0 ∷ 0 ∷ 0 ∷ 1 ∷ 0
    ∷ 2 ∷ 0 ∷ 0 ∷ 0 ∷ 2 ∷ 0 ∷ 0 ∷ 0 ∷ 2 ∷ 0
    ∷ 4 ∷ 0 ∷ 0 ∷ 1 ∷ 1 ∷ 0 ∷ 2 ∷ 0 ∷ 0 ∷ 0
    ∷ 7 ∷ 0 ∷ 0 ∷ 0 ∷ 1 ∷ 0 ∷ 2 ∷ 0 ∷ 0 ∷ 0
    ∷ 9 ∷ 0 ∷ 0 ∷ 1 ∷ 1 ∷ 0 ∷ 2 ∷ 0 ∷ 0 ∷ 0
    ∷ 2 ∷ 0 ∷ 1 ∷ 0 ∷ 2 ∷ 0 ∷ 1 ∷ 0 ∷ 1 ∷ 0 ∷ 1 ∷ 0 ∷ 1 ∷ 0 ∷ 0 ∷ 0
    ∷ []
    ) → ⊥

-- one that writes no report
abbrev pub WritesNoReport : Type 0
WritesNoReport = (reply : Reply) → Ran P path2 (zeros 64) reply (zeros 64) → ⊥
