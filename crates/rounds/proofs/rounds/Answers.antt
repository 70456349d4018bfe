-- `rounds` meets its contract: the reader's refusal is handed on, and the passes of a file that was read are counted.
use Rattle.std.specs.Prelude.{Ok}
use mathlib.Core.Path.{◌≡◌, sym, ap, subst, ◌∙◌}
use mathlib.Core.List.{List}
use Prim.Native.Nat.{ℕ}
use Rattle.rounds.proofs.Ways.{read_denied}
use Rattle.rounds.specs.Calls.{Rounded}
use Rattle.routine.proofs.Accepted.{accepted, read_passed, read_failed}
use Rattle.routine.specs.Reader.{read_check, denied_of}
use Rattle.rounds.proofs.rounds.Goals as goal
use Rattle.rounds.proofs.rounds.Goals.{After-new-routine}

pub returns-in_default : goal.returns-in_default
returns-in_default c =
    let e = c.in_default.is in
    read_denied c.args.file.now c.args.out.now (read_failed c.args.file.now (sym c.read-answer.ensures ∙ e)) (c.denied.ensures ∙ ap denied_of e)

pub new-routine-requires : goal.new-routine-requires
new-routine-requires c =
    let r = accepted c.args.file.now (sym c.read-answer.ensures ∙ c.in-Ok.is) in
    record { well = r.0; heads = r.1 }

-- the routine was read
passed : (c : After-new-routine) → read_check c.new-routine.result.bytes ≡ Ok tt
passed c = ap read_check c.new-routine.ensures ∙ read_passed c.args.file.now (sym c.read-answer.ensures ∙ c.in-Ok.is)

pub rounds_calls-requires : goal.rounds_calls-requires
rounds_calls-requires c = record { passed = passed (goal.at.rounds_calls-requires c).After-new-routine; some = sym c.any.ensures ∙ c.if-any.true }

pub returns-then-any : goal.returns-then-any
returns-then-any c = subst (λ (l : List ℕ). Rounded l c.args.out.now c.rounds_calls.result c.rounds_calls.new.out) c.new-routine.ensures c.rounds_calls.ensures

pub rounds_plain-requires : goal.rounds_plain-requires
rounds_plain-requires c = record { is_read = passed (goal.at.rounds_plain-requires c).After-new-routine; no_calls = sym c.any.ensures ∙ c.if-any.false }

pub returns : goal.returns
returns c = subst (λ (l : List ℕ). Rounded l c.args.out.now c.rounds_plain.result c.rounds_plain.new.out) c.new-routine.ensures c.rounds_plain.ensures
