-- `edges::of` meets its contract: the reader's header, or that of the routine to which the file expands.
use Rattle.std.specs.Prelude.{Ok}
use mathlib.Core.Path.{◌≡◌, sym, ap, subst, ◌∙◌}
use mathlib.Core.List.{List}
use Prim.Native.Nat.{ℕ}
use Rattle.calls.proofs.Checks.{no_calls_routine}
use Rattle.calls.specs.Checks.{calls_check}
use Rattle.calls.specs.Expanded.{routine_of}
use Rattle.path.proofs.Counted.{never}
use Rattle.routine.proofs.Accepted.{accepted, read_passed, read_failed}
use Rattle.routine.specs.Layout.{edges}
use Rattle.routine.specs.Reader.{read_check}
use Rattle.run.proofs.edges.of.Goals as goal

pub returns-in_default : goal.returns-in_default
returns-in_default c = λ passed. absurd (never (read_failed c.args.file.now (sym c.read.ensures ∙ c.in_default.is)) passed)

pub new-routine-requires : goal.new-routine-requires
new-routine-requires c =
    let r = accepted c.args.file.now (sym c.read.ensures ∙ c.in-Ok.is) in
    record { well = r.0; heads = r.1 }

pub of_calls-requires : goal.of_calls-requires
of_calls-requires c =
    record {
      passed = ap read_check c.new-routine.ensures ∙ read_passed c.args.file.now (sym c.read.ensures ∙ c.in-Ok.is);
      some = sym c.any.ensures ∙ c.if-any.true;
    }

pub returns-then-any : goal.returns-then-any
returns-then-any c = λ _. subst (λ (l : List ℕ). calls_check l ≡ Ok tt → c.of_calls.result ≡ edges (routine_of l)) c.new-routine.ensures c.of_calls.ensures

pub returns : goal.returns
returns c =
    λ _ _. c.edges.ensures
    ∙ sym (ap edges (no_calls_routine c.new-routine.result.bytes (sym c.any.ensures ∙ c.if-any.false)))
    ∙ ap (λ (l : List ℕ). edges (routine_of l)) c.new-routine.ensures
