-- `check_references` meets its contract: a scan of the arrays.
use mathlib.Core.Path.{◌≡◌, sym, ◌∙◌}
use mathlib.Core.List.{[], ◌∷◌}
use native.Mathlib.Omega.{arith}
use Rattle.refusal.proofs.Checks.{scan_start, scan_exit, scan_next, scan_done}
use Rattle.directives.specs.Fields.{byte_field, in_order, is_right_reference}
use Rattle.directives.specs.Layout.{arrays, reference_at}
use Rattle.directives.proofs.Fields.{one, order_rows}
use Rattle.directives.proofs.vertex.check_references.Goals as goal
use Rattle.directives.proofs.vertex.check_references.Goals.{After-check}

pub loop-a-init : goal.loop-a-init
loop-a-init c = scan_start _ _

pub overflow_add-at-in-loop-a : goal.overflow_add-at-in-loop-a
overflow_add-at-in-loop-a c = omega (arith, c.place-at.ensures.file_bound)

pub check-requires : goal.check-requires
check-requires c =
    record {
      at_le_longest = omega (arith, c.place-at.ensures.file_bound);
      wide_bound = omega (arith, c.place-at.ensures.file_bound);
    }

-- the byte of array a
item : (c : After-check) →
    let s = c.args in
    c.check.result ≡ in_order s.laid.now.bytes (byte_field s.laid.now.bytes (reference_at s.laid.now.bytes s.v c.loop-a.a) (is_right_reference s.laid.now.bytes s.v) ∷ [])
item c =
    let s = c.args in
    rw (← c.reference.ensures, ← c.place-at.ensures.value, ← c.byte_at.ensures.value, ← c.is_entry_or_exit.ensures, ← c.is_right-right.ensures)
    (one s.laid.now.bytes _ c.check.ensures)

pub returns-in_err-check : goal.returns-in_err-check
returns-in_err-check c =
    let s = c.args in
    let file = s.laid.now.bytes in
    scan_exit c.loop-a.invariant (omega arith) (item (goal.at.returns-in_err-check c).After-check) c.in_err-check.was c.from_residual.ensures
    ∙ sym (order_rows file (λ a. byte_field file (reference_at file s.v a) (is_right_reference file s.v) ∷ []) (arrays file))

pub loop-a-preserved : goal.loop-a-preserved
loop-a-preserved c = scan_next c.loop-a.invariant (omega arith) (item (goal.at.loop-a-preserved c).After-check) c.in_ok-check.was

pub returns : goal.returns
returns c =
    let s = c.args in
    let file = s.laid.now.bytes in
    scan_done c.loop-a.invariant (omega arith) ∙ sym (order_rows file (λ a. byte_field file (reference_at file s.v a) (is_right_reference file s.v) ∷ []) (arrays file))
