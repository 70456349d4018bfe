-- How the code keeps it: an action byte's faults as one test, by the family of what stands earlier in its row; and the reason, if it is at
-- fault.
-- Assumes nothing.
use Rattle.std.specs.Prelude.{Bool, not, ◌&&◌, ◌||◌, cond, ℕ, eqb, Option, Some}
use Rattle.routine.specs.declared.action.Action.{Action}
use Rattle.routine.specs.declared.action.Action.TheVariants.{Nothing, Reference, Remap, Unknown}
use Rattle.routine.specs.declared.action.Family.{Family}
use Rattle.routine.specs.declared.action.Family.TheVariants as F
use Rattle.refusal.specs.declared.Refusal.{Refusal}
use Rattle.refusal.specs.declared.Refusal.TheVariants.{UnknownAction, VersionTooLarge, ActionAtEntryOrExit, MixedActions}
use Rattle.routine.specs.Actions.{action_of, is_known_byte, names_below, family_of, differ}

-- unknown, version too large, not 00 in the row of entry or exit, or of another family than what stands earlier in the row
unfoldable pub is_wrong : ℕ → ℕ → Bool → Option Family → Bool
unfolding action_of
is_wrong b versions terminal family =
    not (is_known_byte b)
    || (not (names_below b versions) || (not (eqb b 0) && terminal || differ (family_of b) family))

-- the lowest number of these, for a known byte
abbrev pub known_reason : Bool → Bool → ℕ → Refusal
known_reason large terminal byte =
    cond large (VersionTooLarge byte) (cond terminal (ActionAtEntryOrExit byte) (MixedActions byte))

-- the lowest number of these
unfoldable pub reason_of : ℕ → ℕ → Bool → ℕ → Refusal
unfolding action_of
reason_of b versions terminal byte =
    cond (not (is_known_byte b)) (UnknownAction byte) (known_reason (not (names_below b versions)) (not (eqb b 0) && terminal) byte)

-- the family of a row so far, after an action that is not at fault: what document 01 does not know is then a call
abbrev pub family_after : Action → Option Family → Option Family
family_after Nothing family = family
family_after (Reference r) family = Some F.Reference
family_after (Remap k) family = Some F.Remapping
family_after Unknown family = Some F.Call
