-- `plan` meets its contract: the reader's refusal is handed on, and a routine that was read is planned, or the one that it expands to.
use Rattle.std.specs.Prelude.{Ok}
use mathlib.Core.Path.{◌≡◌, sym, ap, subst, ◌∙◌}
use mathlib.Core.List.{List}
use Prim.Native.Nat.{ℕ}
use Rattle.planned.proofs.Ways.{read_denied, plain_planned}
use Rattle.planned.specs.Calls.{Planned}
use Rattle.routine.proofs.Accepted.{accepted, read_passed, read_failed}
use Rattle.routine.specs.Reader.{read_check, denied_of}
use Rattle.plan.proofs.plan.Goals as goal
use Rattle.plan.proofs.plan.Goals.{After-new-routine}

pub returns-in_default : goal.returns-in_default
returns-in_default c =
    let e = c.in_default.is in
    read_denied c.args.file.now c.args.out.now (read_failed c.args.file.now (sym c.read-answer.ensures ∙ e)) (c.denied.ensures ∙ ap denied_of e)

pub new-routine-requires : goal.new-routine-requires
new-routine-requires c =
    let r = accepted c.args.file.now (sym c.read-answer.ensures ∙ c.in-Ok.is) in
    record { well = r.0; heads = r.1 }

-- the routine was read
passed : (c : After-new-routine) → read_check c.new-routine.result.bytes ≡ Ok tt
passed c = ap read_check c.new-routine.ensures ∙ read_passed c.args.file.now (sym c.read-answer.ensures ∙ c.in-Ok.is)

pub plan_calls-requires : goal.plan_calls-requires
plan_calls-requires c = record { passed = passed (goal.at.plan_calls-requires c).After-new-routine; some = sym c.any.ensures ∙ c.if-any.true }

pub returns-then-any : goal.returns-then-any
returns-then-any c = subst (λ (l : List ℕ). Planned l c.args.out.now c.plan_calls.result c.plan_calls.new.out) c.new-routine.ensures c.plan_calls.ensures

pub returns : goal.returns
returns c =
    subst (λ (l : List ℕ). Planned l c.args.out.now c.plan_read.result c.plan_read.new.out) c.new-routine.ensures
    (plain_planned c.new-routine.result.bytes c.args.out.now (passed (goal.at.returns c).After-new-routine) (sym c.any.ensures ∙ c.if-any.false) c.plan_read.ensures)
