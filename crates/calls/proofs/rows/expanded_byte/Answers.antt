-- `rows::expanded_byte` meets its contract, by cases of the row.
use mathlib.Core.Path.{sym, ap, ap₂, ◌∙◌}
use mathlib.Core.Bool.{cond}
use Prim.Native.Nat.{ℕ, ◌+◌}
use Rattle.routine.specs.Actions.{is_call, called_version}
use Rattle.calls.specs.Calls.{intent_byte}
use Rattle.calls.specs.Expanded.{expanded_byte}
use Rattle.calls.specs.VertexRows.{part_of}
use Rattle.calls.specs.declared.rows.Row.{Row}
use Rattle.calls.proofs.rows.expanded_byte.Goals as goal
use Rattle.calls.proofs.rows.expanded_byte.Goals.{Start}

-- the byte in each row
abbrev expected : Start → Row → ℕ
expected s row = expanded_byte s.args.routine.now.bytes s.args.a (part_of row s.args.v)

-- a byte where the array is passed
abbrev passed : ℕ → ℕ → ℕ
passed b byte = cond (is_call b) byte 0x00

pub returns-in-Passing : goal.returns-in-Passing
returns-in-Passing c = c.if_passed.ensures ∙ ap (λ (b : ℕ). passed b (0x40 + called_version b)) c.action_byte-b.ensures ∙ sym (ap (expected (goal.at.returns-in-Passing c).Start) c.in-Passing.is)

pub returns-in-Calling : goal.returns-in-Calling
returns-in-Calling c =
    c.if_passed-in-Calling.ensures ∙ ap₂ passed c.action_byte-b.ensures (c.intent_byte.ensures ∙ ap intent_byte c.action_byte-b.ensures)
    ∙ sym (ap (expected (goal.at.returns-in-Calling c).Start) c.in-Calling.is)

pub returns-in-Returning : goal.returns-in-Returning
returns-in-Returning c =
    c.if_passed-in-Returning.ensures ∙ ap₂ (λ (b k : ℕ). passed b (0x40 + k)) c.action_byte-b.ensures c.return_version.ensures.value
    ∙ sym (ap (expected (goal.at.returns-in-Returning c).Start) c.in-Returning.is)
