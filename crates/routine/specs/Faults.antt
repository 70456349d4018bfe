-- Document 02, request 2, one claim about a whole file: the action byte refused is the first that document 01's test of 15, with the calls of
-- request 3, finds at fault, and the number is the lowest of the faults that meet in it.
-- Assumes nothing.
use Rattle.std.specs.Prelude.{◌≡◌, Bool, ◌||◌, cond, List, ◌↔◌, ℕ, ◌≤◌, ◌<◌, T, Ok, Err}
use Rattle.refusal.specs.declared.Refusal.{Refusal}
use Rattle.refusal.specs.declared.Refusal.TheVariants.{UnknownAction, VersionTooLarge, ActionAtEntryOrExit, MixedActions}
use Rattle.refusal.specs.Faults.{FirstFault}
use Rattle.refusal.specs.Refusals.{refused, outcome_of}
use Rattle.routine.specs.Actions.{is_unknown, is_too_large, is_at_entry_or_exit, is_mixed_in_row, actions_check}
use Rattle.routine.specs.Layout.{arrays, vertices, action_at}

-- document 01's test of 15, with calls: unknown, version too large, entry or exit row not zero, or family other than an earlier one's in its
-- row
abbrev pub is_faulty : List ℕ → ℕ → ℕ → Bool
is_faulty file a v = is_unknown file a v || (is_too_large file a v || (is_at_entry_or_exit file a v || is_mixed_in_row file a v))

-- the reason that is given
abbrev pub reason_at : List ℕ → ℕ → ℕ → Refusal
reason_at file a v =
    cond (is_unknown file a v) (UnknownAction (action_at file a v))
    (cond (is_too_large file a v) (VersionTooLarge (action_at file a v))
    (cond (is_at_entry_or_exit file a v) (ActionAtEntryOrExit (action_at file a v))
    (MixedActions (action_at file a v))))

-- the byte of array a at vertex v has the fault with this number
pub data Fault (file : List ℕ) (a v : ℕ) : ℕ → Type 0 where
  unknown : T (is_unknown file a v) → Fault file a v 15
  too_large : T (is_too_large file a v) → Fault file a v 17
  at_entry_or_exit : T (is_at_entry_or_exit file a v) → Fault file a v 18
  mixed : T (is_mixed_in_row file a v) → Fault file a v 19

-- a refusal that names this byte, with the lowest number of its faults
pub record NamesLowest (file : List ℕ) (a v : ℕ) (r : Refusal) : Type 0 where
  pub number : ℕ
  pub named : outcome_of r ≡ refused number (action_at file a v) 0
  pub meets : Fault file a v number
  pub lowest : (n : ℕ) → Fault file a v n → number ≤ n

-- request 2
pub record FourFaults (file : List ℕ) : Type 0 where
  -- passed exactly if no byte is at fault
  pub passed : (actions_check file ≡ Ok tt) ↔ ((v a : ℕ) → v < vertices file → a < arrays file → T (is_faulty file a v) → ⊥)
  -- else the first that is, by vertex, then by array, is refused
  pub failed :
      (r : Refusal) → (actions_check file ≡ Err r)
      ↔ ((v : ℕ) × (a : ℕ) × FirstFault (λ v a. T (is_faulty file a v)) (vertices file) (arrays file) v a × (r ≡ reason_at file a v))
  -- by the lowest number of its faults
  pub lowest : (a v : ℕ) → T (is_faulty file a v) → NamesLowest file a v (reason_at file a v)
