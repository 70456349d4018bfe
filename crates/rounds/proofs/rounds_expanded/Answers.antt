-- `rounds_expanded` meets its contract: the refusal of the expansion is handed on, then comes the buffer's length, then the numbers.
use mathlib.Core.Path.{◌≡◌, sym, ap, subst, ◌∙◌}
use mathlib.Core.List.{List}
use Prim.Native.Nat.{ℕ, ◌≤◌}
use native.Mathlib.Omega.{arith}
use lib.ListN.{length}
use Rattle.calls.proofs.Interfaces.{interfaces_read}
use Rattle.calls.proofs.Referring.{same_vertices}
use Rattle.calls.specs.Expanded.{expanded}
use Rattle.calls.specs.Referring.{referring}
use Rattle.expansion.proofs.Expansion.{calls_failed, calls_passed, read_expanded, end_is, end_fits, front_is}
use Rattle.labels.specs.Routines.{ReadAs}
use Rattle.rounds.proofs.Ways.{few, few_first, calls_denied, calls_short, counted_passed, calls_rounded}
use Rattle.rounds.specs.Calls.{Counted}
use Rattle.routine.proofs.Accepted.{passed_edges}
use Rattle.routine.proofs.Form.{header_limits}
use Rattle.routine.specs.Layout.{vertices}
use Rattle.refusal.proofs.Checks.{exits}
use Rattle.rounds.proofs.rounds_expanded.Goals as goal
use Rattle.rounds.proofs.rounds_expanded.Goals.{After-count-p, After-end_at-n, After-new-routine}

pub expand-expanded-requires : goal.expand-expanded-requires
expand-expanded-requires c =
    let file = c.args.routine.now.bytes in
    record {
      interfaces = interfaces_read file c.requires.calls_read.passed;
      few_edges = passed_edges file c.requires.calls_read.passed;
      out_len = c.requires.work_len;
    }

pub returns-in_err-e : goal.returns-in_err-e
returns-in_err-e c =
    let e = c.in_err-e.was in
    calls_denied c.args.routine.now.bytes c.args.out.now c.requires.calls_read.passed (calls_failed c.expand-expanded.ensures e) (exits c.from_residual.ensures)

pub returns-then-out-lt-SIX : goal.returns-then-out-lt-SIX
returns-then-out-lt-SIX c = calls_short c.args.routine.now.bytes c.args.out.now c.requires.calls_read.passed c.requires.calls_read.some (calls_passed c.expand-expanded.ensures c.in_ok-e.was) c.if-out-lt-SIX.true

-- ---- the expanded routine
pub end_at-n-requires : goal.end_at-n-requires
end_at-n-requires c = header_limits (read_expanded c.expand-expanded.ensures c.in_ok-e.was c.requires.calls_read.passed).heads

-- its end, within the bytes
end : (c : After-end_at-n) → c.end_at-n.result ≡ length (expanded c.args.routine.now.bytes)
end c =
    c.end_at-n.ensures ∙ end_is c.expand-expanded.ensures c.in_ok-e.was c.requires.calls_read.passed

pub slice_bounds-new-end : goal.slice_bounds-new-end
slice_bounds-new-end c = omega (arith, end c, end_fits c.expand-expanded.ensures c.in_ok-e.was c.requires.calls_read.passed, c.expand-expanded.auto, c.requires.work_len)

pub slice_bounds-new-end-2 : goal.slice_bounds-new-end-2
slice_bounds-new-end-2 c = end c ∙ sym (ap length (front_is c.expand-expanded.ensures c.in_ok-e.was c.requires.calls_read.passed (end c)))

pub new-routine-requires : goal.new-routine-requires
new-routine-requires c =
    let e = c.in_ok-e.was in
    subst (λ (l : List ℕ). ReadAs l c.in_ok-e.e) (sym (front_is c.expand-expanded.ensures e c.requires.calls_read.passed (end (goal.at.new-routine-requires c).After-end_at-n)))
    (read_expanded c.expand-expanded.ensures e c.requires.calls_read.passed)

front : (c : After-new-routine) → c.new-routine.result.bytes ≡ expanded c.args.routine.now.bytes
front c = c.new-routine.ensures ∙ front_is c.expand-expanded.ensures c.in_ok-e.was c.requires.calls_read.passed (end (goal.at.After-new-routine c).After-end_at-n)

-- its passes
counted : (q : After-count-p) → Counted (expanded q.args.routine.now.bytes) q.count-p.result
counted q = subst (λ (l : List ℕ). Counted l q.count-p.result) (front (goal.at.After-count-p q).After-new-routine) q.count-p.ensures

pub write_six-requires : goal.write_six-requires
write_six-requires c =
    let file = c.args.routine.now.bytes in
    let e = c.in_ok-e.was in
    let passed = calls_passed c.expand-expanded.ensures e in
    let p = counted (goal.at.write_six-requires c).After-count-p in
    let y = counted_passed file c.args.out.now c.requires.calls_read.passed c.requires.calls_read.some passed p in
    let laid = c.args.routine.now.well.laid in
    let m : vertices (referring file) ≤ 256 = omega (arith, same_vertices file laid, laid.limits.few_vertices) in
    let n = (read_expanded c.expand-expanded.ensures e c.requires.calls_read.passed).well.laid.limits.few_vertices in
    record {
      out_room = omega (arith, c.if-out-lt-SIX.false);
      two_fit = (few_first (referring file) m (c.expand-expanded.ensures.reached_first passed), few (referring file) m (c.expand-expanded.ensures.arriving_stops passed));
      four_fit = (few (expanded file) n (p.letters_stop y), few_first (expanded file) n (p.reached_first y), few (expanded file) n (p.reaching_stops y), few (expanded file) n (p.kept_stops y));
    }

pub returns : goal.returns
returns c =
    let passed = calls_passed c.expand-expanded.ensures c.in_ok-e.was in
    calls_rounded c.args.routine.now.bytes c.args.out.now c.requires.calls_read.passed c.requires.calls_read.some passed (counted (goal.at.returns c).After-count-p) (omega (arith, c.if-out-lt-SIX.false)) (c.expand-expanded.ensures.reached_first passed) (c.expand-expanded.ensures.arriving_stops passed) c.write_six.ensures
