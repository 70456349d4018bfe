-- `check_directive` meets its contract: four fields.
use mathlib.Core.Path.{◌≡◌, sym, ◌∙◌}
use mathlib.Core.Bool.{cond}
use native.Mathlib.Omega.{arith}
use lib.Dec.{eqb}
use Rattle.refusal.proofs.Checks.{exit_fails, passes, then_passed}
use Rattle.directives.specs.Fields.{in_order}
use Rattle.directives.specs.Layout as W
use Rattle.directives.proofs.vertex.check_directive.Goals as goal
use Rattle.directives.proofs.vertex.check_directive.Goals.{After-check, then-is_entry_or_exit, else-is_entry_or_exit, then-d-eq-REALIGN, else-d-eq-REALIGN, then-d-eq-REALIGN-2, else-d-eq-REALIGN-2}

pub overflow_add-at-6 : goal.overflow_add-at-6
overflow_add-at-6 c = omega (arith, c.place-at.ensures.file_bound)

pub check-requires-4 : goal.check-requires-4
check-requires-4 c =
    record {
      at_le_longest = omega (arith, c.place-at.ensures.file_bound);
      wide_bound = omega (arith, c.place-at.ensures.file_bound);
    }

-- the three limits
highest : (c : After-check) → c.if-is_entry_or_exit.highest ≡ cond c.is_entry_or_exit.result 0 2
highest c =
    elim c.if-is_entry_or_exit.branch [
      | then-is_entry_or_exit w ↦ rw w.if-is_entry_or_exit.true w.highest-is
      | else-is_entry_or_exit w ↦ rw w.if-is_entry_or_exit.false w.highest-is
    ]

templates : (c : After-check) → c.if-d-eq-REALIGN.templates ≡ cond (eqb c.byte_at-d.result 1) (W.templates c.args.laid.now.bytes) 1
templates c = elim c.if-d-eq-REALIGN.branch [ then-d-eq-REALIGN w ↦ grind arith | else-d-eq-REALIGN w ↦ grind arith ]

exchanges : (c : After-check) → c.if-d-eq-REALIGN-2.exchanges ≡ cond (eqb c.byte_at-d.result 1) 1 0
exchanges c = elim c.if-d-eq-REALIGN-2.branch [ then-d-eq-REALIGN-2 w ↦ grind arith | else-d-eq-REALIGN-2 w ↦ grind arith ]

pub returns-in_err-check : goal.returns-in_err-check
unfolding in_order
returns-in_err-check c =
    rw (← c.place-at.ensures.value, ← c.byte_at-d.ensures.value, ← c.is_entry_or_exit.ensures, ← highest (goal.at.returns-in_err-check c).After-check)
    (exit_fails _ c.check.ensures c.in_err-check.was c.from_residual.ensures)

pub returns-in_err-check-2 : goal.returns-in_err-check-2
unfolding in_order
returns-in_err-check-2 c =
    rw (
      ← c.place-at.ensures.value,
      ← c.byte_at-d.ensures.value,
      ← c.is_entry_or_exit.ensures,
      ← highest (goal.at.returns-in_err-check-2 c).After-check,
      ← c.byte_at-subject.ensures.value,
      ← c.subjects.ensures,
    )
    (passes c.check.ensures c.in_ok-check.was
    (exit_fails _ c.check-2.ensures c.in_err-check-2.was c.from_residual-in_err-check-2.ensures))

pub returns-in_err-check-3 : goal.returns-in_err-check-3
unfolding in_order
returns-in_err-check-3 c =
    rw (
      ← c.place-at.ensures.value,
      ← c.byte_at-d.ensures.value,
      ← c.is_entry_or_exit.ensures,
      ← highest (goal.at.returns-in_err-check-3 c).After-check,
      ← c.byte_at-subject.ensures.value,
      ← c.subjects.ensures,
      ← c.byte_at-template.ensures.value,
      ← templates (goal.at.returns-in_err-check-3 c).After-check,
    )
    (passes c.check.ensures c.in_ok-check.was
    (passes c.check-2.ensures c.in_ok-check-2.was
    (exit_fails _ c.check-3.ensures c.in_err-check-3.was c.from_residual-in_err-check-3.ensures)))

pub returns : goal.returns
unfolding in_order
returns c =
    rw (
      ← c.place-at.ensures.value,
      ← c.byte_at-d.ensures.value,
      ← c.is_entry_or_exit.ensures,
      ← highest (goal.at.returns c).After-check,
      ← c.byte_at-subject.ensures.value,
      ← c.subjects.ensures,
      ← c.byte_at-template.ensures.value,
      ← templates (goal.at.returns c).After-check,
      ← c.byte_at-exchanged.ensures.value,
      ← exchanges (goal.at.returns c).After-check,
    )
    (passes c.check.ensures c.in_ok-check.was
    (passes c.check-2.ensures c.in_ok-check-2.was
    (passes c.check-3.ensures c.in_ok-check-3.was
    (c.check-4.ensures ∙ sym (then_passed _)))))
