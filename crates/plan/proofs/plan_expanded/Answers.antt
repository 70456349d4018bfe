-- `plan_expanded` meets its contract: the refusal of the expansion is handed on, and the expanded routine is planned.
use mathlib.Core.Path.{◌≡◌, sym, ap, subst, ◌∙◌}
use mathlib.Core.List.{List}
use Prim.Native.Nat.{ℕ}
use native.Mathlib.Omega.{arith}
use lib.ListN.{length}
use Rattle.calls.proofs.Interfaces.{interfaces_read}
use Rattle.calls.specs.Expanded.{expanded}
use Rattle.expansion.proofs.Expansion.{calls_failed, calls_passed, read_expanded, end_is, end_fits, front_is}
use Rattle.labels.specs.Routines.{ReadAs}
use Rattle.planned.proofs.Ways.{calls_denied, calls_planned}
use Rattle.planned.specs.Calls.{PlannedRead}
use Rattle.routine.proofs.Accepted.{passed_edges}
use Rattle.routine.proofs.Form.{header_limits}
use Rattle.refusal.proofs.Checks.{exits}
use Rattle.plan.proofs.plan_expanded.Goals as goal
use Rattle.plan.proofs.plan_expanded.Goals.{After-end_at-n, After-new-expanded}

pub expand-expanded-requires : goal.expand-expanded-requires
expand-expanded-requires c =
    let file = c.args.routine.now.bytes in
    record {
      interfaces = interfaces_read file c.requires.calls_read.passed;
      few_edges = passed_edges file c.requires.calls_read.passed;
      out_len = c.requires.work_len;
    }

pub returns-in_err-e : goal.returns-in_err-e
returns-in_err-e c =
    let e = c.in_err-e.was in
    calls_denied c.args.routine.now.bytes c.args.out.now c.requires.calls_read.passed (calls_failed c.expand-expanded.ensures e) (exits c.from_residual.ensures)

pub end_at-n-requires : goal.end_at-n-requires
end_at-n-requires c = header_limits (read_expanded c.expand-expanded.ensures c.in_ok-e.was c.requires.calls_read.passed).heads

-- the end of the expanded routine, within the bytes
end : (c : After-end_at-n) → c.end_at-n.result ≡ length (expanded c.args.routine.now.bytes)
end c = c.end_at-n.ensures ∙ end_is c.expand-expanded.ensures c.in_ok-e.was c.requires.calls_read.passed

pub slice_bounds-new-end : goal.slice_bounds-new-end
slice_bounds-new-end c = omega (arith, end c, end_fits c.expand-expanded.ensures c.in_ok-e.was c.requires.calls_read.passed, c.expand-expanded.auto, c.requires.work_len)

pub slice_bounds-new-end-2 : goal.slice_bounds-new-end-2
slice_bounds-new-end-2 c = end c ∙ sym (ap length (front_is c.expand-expanded.ensures c.in_ok-e.was c.requires.calls_read.passed (end c)))

pub new-expanded-requires : goal.new-expanded-requires
new-expanded-requires c =
    let e = c.in_ok-e.was in
    subst (λ (l : List ℕ). ReadAs l c.in_ok-e.e) (sym (front_is c.expand-expanded.ensures e c.requires.calls_read.passed (end (goal.at.new-expanded-requires c).After-end_at-n)))
    (read_expanded c.expand-expanded.ensures e c.requires.calls_read.passed)

front : (c : After-new-expanded) → c.new-expanded.result.bytes ≡ expanded c.args.routine.now.bytes
front c = c.new-expanded.ensures ∙ front_is c.expand-expanded.ensures c.in_ok-e.was c.requires.calls_read.passed (end (goal.at.After-new-expanded c).After-end_at-n)

pub returns : goal.returns
returns c =
    let e = c.in_ok-e.was in
    calls_planned c.args.routine.now.bytes c.args.out.now c.requires.calls_read.passed c.requires.calls_read.some (calls_passed c.expand-expanded.ensures e)
    (subst (λ (l : List ℕ). PlannedRead l c.args.out.now c.plan_read.result c.plan_read.new.out) (front (goal.at.returns c).After-new-expanded) c.plan_read.ensures)
