-- Document 01, "Routine file": vertices, one action byte for each array; with the calls and the kill of document 02, requests 3 and 6.
-- Assumes nothing.
use Rattle.std.specs.Prelude.{Bool, true, false, not, ◌&&◌, ◌||◌, cond, List, ℕ, ◌+◌, ◌-◌, ◌%◌, eqb, ltb, get_or, Option, Some, None}
use Rattle.routine.specs.declared.action.Access.TheVariants.{Read, Define, Modify, Kill}
use Rattle.routine.specs.declared.action.Action.{Action}
use Rattle.routine.specs.declared.action.Action.TheVariants.{Nothing, Reference, Remap, Unknown}
use Rattle.routine.specs.declared.action.Family.{Family}
use Rattle.routine.specs.declared.action.Family.TheVariants as F
use Rattle.refusal.specs.declared.Refusal.TheVariants.{UnknownAction, VersionTooLarge, ActionAtEntryOrExit, MixedActions}
use Rattle.refusal.specs.Checks.{Verdict, ◌and_then◌, holds, first_failed}
use Rattle.routine.specs.Arrays.{array_of}
use Rattle.routine.specs.Layout.{arrays, vertices, entry, exit, action_at, within}
use Rattle.sets.specs.Sets.{width}
use Rattle.words.specs.Sums.{any_below}

-- 00 nothing, 10 read, 20 define, 30 modify, 80 kill, 40+k remap to version k, k below 32; every other byte is unknown
unfoldable pub action_of : ℕ → Action
action_of b =
    cond (eqb b 0x00) Nothing
    (cond (eqb b 0x10) (Reference Read)
    (cond (eqb b 0x20) (Reference Define)
    (cond (eqb b 0x30) (Reference Modify)
    (cond (eqb b 0x80) (Reference Kill)
    (cond (ltb b 0x40) Unknown
    (cond (ltb b (0x40 + width)) (Remap (b - 0x40))
    Unknown))))))

-- ---- document 02, request 3: 60+k passes the array in version k with intent in, A0+k out, C0+k inout, k below 32

-- a call's byte; to `action_of` it is unknown
abbrev pub is_call : ℕ → Bool
is_call b = within 0x60 0x7f b || within 0xa0 0xdf b

-- the version k in which it passes the array
abbrev pub called_version : ℕ → ℕ
called_version b = b % 32

-- ---- a byte of the file, and what it does

-- the byte of array a at vertex v
abbrev pub action_byte : List ℕ → ℕ → ℕ → ℕ
action_byte file a v = get_or file (action_at file a v) 0

-- what vertex v does with array a
unfoldable pub action : List ℕ → ℕ → ℕ → Action
unfolding action_of
action file a v = action_of (action_byte file a v)

-- not unknown
abbrev pub is_known : Action → Bool
is_known Nothing = true
is_known (Reference r) = true
is_known (Remap k) = true
is_known Unknown = false

-- the middle three are references, and so is a kill
abbrev pub is_reference : Action → Bool
is_reference Nothing = false
is_reference (Reference r) = true
is_reference (Remap k) = false
is_reference Unknown = false

-- a remapping
abbrev pub is_remap : Action → Bool
is_remap Nothing = false
is_remap (Reference r) = false
is_remap (Remap k) = true
is_remap Unknown = false

-- a remap's version is below the array's number of versions
abbrev pub remaps_below : Action → ℕ → Bool
remaps_below Nothing n = true
remaps_below (Reference r) n = true
remaps_below (Remap k) n = ltb k n
remaps_below Unknown n = true

-- the rows of entry and exit are all 00
abbrev pub is_entry_or_exit : List ℕ → ℕ → Bool
is_entry_or_exit file v = eqb v entry || eqb v (exit file)

-- a known action, or a call
abbrev pub is_known_byte : ℕ → Bool
is_known_byte b = is_known (action_of b) || is_call b

-- the version of a remapping, or that in which a call passes the array, is below the array's number of versions
abbrev pub names_below : ℕ → ℕ → Bool
names_below b n = cond (is_call b) (ltb (called_version b) n) (remaps_below (action_of b) n)

-- a byte's family, or none
abbrev pub family_of : ℕ → Option Family
family_of b =
    cond (is_reference (action_of b)) (Some F.Reference)
    (cond (is_remap (action_of b)) (Some F.Remapping)
    (cond (is_call b) (Some F.Call) None))

-- one family
abbrev pub alike : Family → Family → Bool
alike F.Reference F.Reference = true
alike F.Reference F.Remapping = false
alike F.Reference F.Call = false
alike F.Remapping F.Reference = false
alike F.Remapping F.Remapping = true
alike F.Remapping F.Call = false
alike F.Call F.Reference = false
alike F.Call F.Remapping = false
alike F.Call F.Call = true

-- two families that differ
abbrev pub differ : Option Family → Option Family → Bool
differ None g = false
differ (Some f) None = false
differ (Some f) (Some g) = not (alike g f)

-- ---- the faults of the byte of array a at vertex v, each with its number (document 02, requests 2 and 3)

-- 15: an unknown action
abbrev pub is_unknown : List ℕ → ℕ → ℕ → Bool
is_unknown file a v = not (is_known_byte (action_byte file a v))

-- 17: a version not below the array's count
abbrev pub is_too_large : List ℕ → ℕ → ℕ → Bool
is_too_large file a v = not (names_below (action_byte file a v) (array_of file a).versions)

-- 18: a non-zero byte in the entry or exit row
abbrev pub is_at_entry_or_exit : List ℕ → ℕ → ℕ → Bool
is_at_entry_or_exit file a v = is_entry_or_exit file v && not (eqb (action_byte file a v) 0)

-- 19: two of references, remappings and calls in one row, at the first byte whose family differs from an earlier one's
abbrev pub is_mixed_in_row : List ℕ → ℕ → ℕ → Bool
is_mixed_in_row file a v = any_below (λ b. differ (family_of (action_byte file a v)) (family_of (action_byte file b v))) a

-- ---- checks 15, 17, 18 and 19, byte by byte

-- of the faults that meet in a byte the lowest number
unfoldable pub action_check : List ℕ → ℕ → ℕ → Verdict
unfolding action_of array_of any_below
action_check file a v =
    holds (not (is_unknown file a v)) (UnknownAction (action_at file a v))
    and_then holds (not (is_too_large file a v)) (VersionTooLarge (action_at file a v))
    and_then holds (not (is_at_entry_or_exit file a v)) (ActionAtEntryOrExit (action_at file a v))
    and_then holds (not (is_mixed_in_row file a v)) (MixedActions (action_at file a v))

-- the first wrong byte of a vertex's row
unfoldable pub row_check : List ℕ → ℕ → Verdict
unfolding action_check first_failed
row_check file v = first_failed (λ a. action_check file a v) 0 (arrays file)

-- the first wrong action byte, first by vertex, then by array
unfoldable pub actions_check : List ℕ → Verdict
unfolding row_check first_failed
actions_check file = first_failed (row_check file) 0 (vertices file)
