-- `check_row` meets its contract: a scan of the arrays that keeps the family of what it met.
use Rattle.std.specs.Prelude.{Ok}
use mathlib.Core.Path.{◌≡◌, refl, sym, ap, subst, ◌∙◌}
use mathlib.Core.Bool.{false, not}
use Prim.Native.Nat.{ℕ, ◌+◌}
use native.Mathlib.Omega.{arith}
use Rattle.routine.specs.declared.action.Action.{Action}
use Rattle.routine.specs.declared.action.Action.TheVariants.{Nothing}
use Rattle.routine.specs.declared.array.ArrayRecord.{ArrayRecord}
use Rattle.routine.specs.Arrays.{array_of}
use Rattle.routine.specs.Actions.{action_of, action_check, row_check}
use Rattle.routine.specs.Layout.{action_at}
use Rattle.routine.specs.Rows.{is_wrong, reason_of, family_after}
use Rattle.refusal.specs.Checks.{holds}
use Rattle.refusal.proofs.Checks.{scan_start, scan_stop, scan_next, scan_done}
use Rattle.routine.proofs.Rows.{RowFamily, nothing_wrong, first_family, next_family, one_test}
use Rattle.routine.proofs.action.check_row.Goals as goal
use Rattle.routine.proofs.action.check_row.Goals.{After-is_wrong-wrong, Then-b-eq0}

pub loop-a-init : goal.loop-a-init
loop-a-init c =
    let a = c.args in
    (scan_start _ _, first_family a.laid.now.bytes a.v)

-- the check of a turn's byte
turn : (c : After-is_wrong-wrong) →
    action_check c.args.laid.now.bytes c.loop-a.a c.args.v
    ≡ holds (not c.is_wrong-wrong.result)
    (reason_of c.action_byte-b.result c.array-versions.result.versions c.is_terminal-terminal.result (action_at c.args.laid.now.bytes c.loop-a.a c.args.v))
turn c =
    one_test c.args.laid.now.bytes c.loop-a.a c.args.v _ _ _ _
    c.is_wrong-wrong.ensures
    c.action_byte-b.ensures
    (ap (λ (r : ArrayRecord). r.versions) c.array-versions.ensures)
    c.is_terminal-terminal.ensures
    c.loop-a.invariant.1

-- 00 is nothing, and so never at fault
module _ (c : Then-b-eq0) where
  is_nothing : action_of c.action_byte-b.result ≡ Nothing
  unfolding action_of
  is_nothing = rw c.if-b-eq0.true

  abbrev versions : ℕ
  versions = (array_of c.args.laid.now.bytes c.loop-a.a).versions

  right : is_wrong c.action_byte-b.result versions c.is_terminal-terminal.result c.loop-a.family ≡ false
  right = nothing_wrong c.action_byte-b.result versions c.is_terminal-terminal.result c.loop-a.family is_nothing

  passes : action_check c.args.laid.now.bytes c.loop-a.a c.args.v ≡ Ok tt
  passes = one_test c.args.laid.now.bytes c.loop-a.a c.args.v _ _ _ _ (sym right) c.action_byte-b.ensures refl c.is_terminal-terminal.ensures c.loop-a.invariant.1

  same : RowFamily c.args.laid.now.bytes c.args.v (c.loop-a.a + 1) c.loop-a.family
  same =
      subst (λ (x : Action). RowFamily c.args.laid.now.bytes c.args.v (c.loop-a.a + 1) (family_after x c.loop-a.family)) is_nothing
      (next_family _ _ _ _ right c.args.laid.now.bytes c.args.v c.loop-a.a c.action_byte-b.ensures c.loop-a.invariant.1)

pub loop-a-preserved-then-b-eq0 : goal.loop-a-preserved-then-b-eq0
loop-a-preserved-then-b-eq0 c =
    let at = (goal.at.loop-a-preserved-then-b-eq0 c).Then-b-eq0 in
    (scan_next c.loop-a.invariant.0 (omega arith) (sym (passes at)) refl, same at)

pub returns-then-wrong : goal.returns-then-wrong
unfolding row_check
returns-then-wrong c = scan_stop c.loop-a.invariant.0 (omega arith) (rw (c.reason.ensures, c.action_at.ensures.value, turn (goal.at.returns-then-wrong c).After-is_wrong-wrong, c.if-wrong.true)) refl

pub loop-a-preserved : goal.loop-a-preserved
loop-a-preserved c = (
  scan_next c.loop-a.invariant.0 (omega arith) (rw (turn (goal.at.loop-a-preserved c).After-is_wrong-wrong, c.if-wrong.false)) refl,
  rw (c.family_after-family.ensures, c.from-x.ensures)
      (next_family _ _ _ _ (sym c.is_wrong-wrong.ensures ∙ c.if-wrong.false) c.args.laid.now.bytes c.args.v c.loop-a.a c.action_byte-b.ensures c.loop-a.invariant.1),
)

pub returns : goal.returns
unfolding row_check
returns c = scan_done c.loop-a.invariant.0 (omega arith)
