-- `run_calls_small` meets its contract: the refusal of the expansion is handed on, and the expanded routine is run in the same tables.
use mathlib.Core.Path.{◌≡◌, refl, sym, ap, subst, ◌∙◌}
use mathlib.Core.List.{List}
use Prim.Native.Nat.{ℕ, ◌≤◌, ◌+◌}
use native.Mathlib.Omega.{arith}
use lib.ListN.{length}
use Rattle.calls.proofs.Bytes.{vertices_are, edges_are}
use Rattle.calls.proofs.Interfaces.{interfaces_read}
use Rattle.calls.proofs.Parts.{size_is, size-count}
use Rattle.calls.proofs.Written.{more_edges}
use Rattle.calls.specs.Expanded.{expanded, expanded_edges}
use Rattle.calls.specs.Interfaces.{Expandable}
use Rattle.calls.specs.Parts.{expanded_vertices}
use Rattle.expansion.proofs.Expansion.{calls_failed, calls_passed, read_expanded, end_is, front_is}
use Rattle.expansion.proofs.Ways.{small_fits}
use Rattle.labels.specs.Routines.{ReadAs}
use Rattle.refusal.proofs.Checks.{exits}
use Rattle.routine.proofs.Accepted.{passed_edges}
use Rattle.routine.proofs.Form.{header_limits}
use Rattle.routine.specs.Layout.{vertices, edges}
use Rattle.run.proofs.Ways.{calls_denied, calls_ran}
use Rattle.run.specs.Calls.{RanRead}
use Rattle.run.proofs.run_calls_small.Goals as goal
use Rattle.run.proofs.run_calls_small.Goals.{After-end_at-n, After-new-expanded, Start}

can : (s : Start) → Expandable s.args.routine.now.bytes
can s = record {
  well = s.args.routine.now.well;
  interfaces = interfaces_read s.args.routine.now.bytes s.requires.calls_read.passed;
  few_edges = passed_edges s.args.routine.now.bytes s.requires.calls_read.passed;
  few_vertices = omega (arith, s.requires.vertices_counted, s.requires.is_small.0);
}

-- ---- the tables are large enough for the expanded routine, and so for the file
few : (s : Start) → expanded_vertices s.args.routine.now.bytes ≤ 32
few s = omega (arith, s.requires.vertices_counted, s.requires.is_small.0)

more : (s : Start) → vertices s.args.routine.now.bytes ≤ expanded_vertices s.args.routine.now.bytes
more s = omega (arith, size_is s.args.routine.now.bytes, size-count s.args.routine.now.bytes (vertices s.args.routine.now.bytes))

few_sum : (s : Start) → edges s.args.routine.now.bytes + expanded_vertices s.args.routine.now.bytes ≤ 128 + vertices s.args.routine.now.bytes
few_sum s = omega (arith, s.requires.vertices_counted, s.requires.is_small.1)

few_edges : (s : Start) → length (expanded_edges s.args.routine.now.bytes) ≤ 128
few_edges s = omega (arith, more_edges (can s), few_sum s)

work_fits : (s : Start) → length (expanded s.args.routine.now.bytes) ≤ 818
work_fits s = small_fits (can s) (few s) (few_sum s)

pub expand_within-expanded-requires : goal.expand_within-expanded-requires
expand_within-expanded-requires c =
    let s = (goal.at.expand_within-expanded-requires c).Start in
    let q = c.requires in
    (omega arith, (can s, (q.firsts, (q.vertices_counted, (work_fits s, (omega (arith, few_sum s, more s), omega (arith, few s, more s)))))))

pub returns-in_err-e : goal.returns-in_err-e
returns-in_err-e c =
    calls_denied c.args.routine.now.bytes c.args.path.now c.args.out.now c.requires.calls_read.passed (calls_failed c.expand_within-expanded.ensures c.in_err-e.was) (exits c.from_residual.ensures)

pub end_at-n-requires : goal.end_at-n-requires
end_at-n-requires c = header_limits (read_expanded c.expand_within-expanded.ensures c.in_ok-e.was c.requires.calls_read.passed).heads

-- the end of the expanded routine, within the bytes
end : (c : After-end_at-n) → c.end_at-n.result ≡ length (expanded c.args.routine.now.bytes)
end c = c.end_at-n.ensures ∙ end_is c.expand_within-expanded.ensures c.in_ok-e.was c.requires.calls_read.passed

pub slice_bounds-work-end : goal.slice_bounds-work-end
slice_bounds-work-end c = omega (arith, end (goal.at.slice_bounds-work-end c).After-end_at-n, c.expand_within-expanded.auto.out, work_fits (goal.at.slice_bounds-work-end c).Start)

pub slice_bounds-new-end : goal.slice_bounds-new-end
slice_bounds-new-end c = let n = end (goal.at.slice_bounds-new-end c).After-end_at-n in n ∙ sym (ap length (front_is c.expand_within-expanded.ensures c.in_ok-e.was c.requires.calls_read.passed n))

pub new-expanded-requires : goal.new-expanded-requires
new-expanded-requires c =
    let e = c.in_ok-e.was in
    subst (λ (l : List ℕ). ReadAs l c.in_ok-e.e) (sym (front_is c.expand_within-expanded.ensures e c.requires.calls_read.passed (end (goal.at.new-expanded-requires c).After-end_at-n)))
    (read_expanded c.expand_within-expanded.ensures e c.requires.calls_read.passed)

front : (c : After-new-expanded) → c.new-expanded.result.bytes ≡ expanded c.args.routine.now.bytes
front c = c.new-expanded.ensures ∙ front_is c.expand_within-expanded.ensures c.in_ok-e.was c.requires.calls_read.passed (end (goal.at.After-new-expanded c).After-end_at-n)

pub run_within-requires : goal.run_within-requires
run_within-requires c =
    let s = (goal.at.run_within-requires c).Start in
    let is = front (goal.at.run_within-requires c).After-new-expanded in
    let laid = c.args.routine.now.well.laid in
    let size = ap vertices is ∙ vertices_are c.args.routine.now.bytes laid in
    (omega arith, (omega arith, (omega (arith, ap edges is ∙ edges_are c.args.routine.now.bytes laid, few_edges s), (omega (arith, size, few s), (omega (arith, size, few s), refl)))))

pub returns : goal.returns
returns c =
    let e = c.in_ok-e.was in
    calls_ran c.args.routine.now.bytes c.args.path.now c.args.out.now c.requires.calls_read.passed c.requires.calls_read.some (calls_passed c.expand_within-expanded.ensures e)
    (subst (λ (l : List ℕ). RanRead l c.args.path.now c.args.out.now c.run_within.result c.run_within.new.out) (front (goal.at.returns c).After-new-expanded) c.run_within.ensures)
