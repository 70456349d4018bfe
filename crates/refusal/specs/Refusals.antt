-- Document 01, "Who can cause a refusal", and document 02: the number and the two places of each reason; the second place is 0 unless said.
-- Assumes nothing.
use Rattle.std.specs.Prelude.{ℕ}
use Rattle.refusal.specs.declared.Outcome.{Outcome}
use Rattle.refusal.specs.declared.Refusal.{Refusal}
use Rattle.refusal.specs.declared.Refusal.TheVariants.{TooShort, WrongMark, WrongEdition, CountOutsideLimits, WrongOffset, WrongLength, WrongArrayByte, UnknownAction, VersionTooLarge, ActionAtEntryOrExit, MixedActions, WrongEdge, TooManyVertices, WritesInArgument, AmbiguousReference, PathLengthOutsideLimits, WrongStart, NoSuchEdge, MalformedDirectives, TooManyMappings, TwoMappings, ShortRoutineBuffer, ShortPlanBuffer, ShortReportBuffer}

-- a number and two places
abbrev pub refused : ℕ → ℕ → ℕ → Outcome
refused number first second = record { number = number; first = first; second = second }

-- those of each reason
abbrev pub outcome_of : Refusal → Outcome
outcome_of (TooShort length) = refused 10 length 0
outcome_of WrongMark = refused 10 0 0
outcome_of WrongEdition = refused 11 4 0
outcome_of (CountOutsideLimits byte) = refused 12 byte 0
outcome_of (WrongOffset byte) = refused 13 byte 0
outcome_of WrongLength = refused 13 18 0
outcome_of (WrongArrayByte byte) = refused 14 byte 0
outcome_of (UnknownAction byte) = refused 15 byte 0
outcome_of (VersionTooLarge byte) = refused 17 byte 0
outcome_of (ActionAtEntryOrExit byte) = refused 18 byte 0
outcome_of (MixedActions byte) = refused 19 byte 0
outcome_of (WrongEdge byte) = refused 16 byte 0
outcome_of (TooManyVertices vertices) = refused 22 vertices 0
outcome_of (WritesInArgument vertex array) = refused 20 vertex array
outcome_of (AmbiguousReference vertex array) = refused 21 vertex array
outcome_of (PathLengthOutsideLimits length) = refused 30 length 0
outcome_of WrongStart = refused 31 0 0
outcome_of (NoSuchEdge index) = refused 32 index 0
outcome_of (MalformedDirectives byte) = refused 40 byte 0
outcome_of (TooManyMappings array) = refused 41 array 0
outcome_of (TwoMappings vertex array) = refused 42 vertex array
outcome_of (ShortRoutineBuffer needed) = refused 1 needed 0
outcome_of (ShortPlanBuffer needed) = refused 1 needed 0
outcome_of (ShortReportBuffer needed) = refused 2 needed 0
