-- `pass` meets its contract, by cases of what is found.
use mathlib.Core.Path.{◌≡◌, sym, ap, subst, ◌∙◌}
use mathlib.Core.Bool.{true}
use Prim.Native.Nat.{ℕ, ◌+◌, ◌<◌}
use native.Mathlib.Omega.{arith}
use lib.ListN.{length, get_or}
use Rattle.std.specs.Prelude.{Option, None, Result, Err}
use Rattle.std.specs.Option.{ok_or}
use Rattle.std.specs.Result.{result_ok}
use Rattle.refusal.specs.declared.Refusal.{Refusal}
use Rattle.refusal.specs.declared.Refusal.TheVariants.{NoSuchEdge}
use Rattle.refusal.proofs.Checks.{exits}
use Rattle.path.specs.Paths.{vertex_at, joins}
use Rattle.path.specs.Places.{Finds}
use Rattle.path.proofs.Counted.{no_arrival, arrival, never, passes_few, counts-length, count_at, counts_next}
use Rattle.routine.specs.Layout.{edges}
use Rattle.path.proofs.pass.Goals as goal
use Rattle.path.proofs.pass.Goals.{After-find-found, In_ok-place, In_err-place}

refusal_is : {r s : Refusal} → ◌≡◌ {A = Result ℕ Refusal} (Err r) (Err s) → r ≡ s
refusal_is e = cc

-- what is found between the two vertices
seen : (c : After-find-found) →
    let a = c.args in
    Finds a.routine.now.bytes (vertex_at a.path.now a.i) (vertex_at a.path.now (a.i + 1)) c.find-found.result
seen c =
    let a = c.args in
    subst (λ (x : ℕ). Finds a.routine.now.bytes x (vertex_at a.path.now (a.i + 1)) c.find-found.result) c.vertex.ensures
    (subst (λ (x : ℕ). Finds a.routine.now.bytes c.vertex.result x c.find-found.result) c.vertex-2.ensures c.find-found.ensures)

none : (c : In_err-place) → c.find-found.result ≡ None
none c = c.ok_or.ensures.ok_part ∙ ap result_ok c.in_err-place.was

pub returns-in_err-place : goal.returns-in_err-place
returns-in_err-place c =
    let a = c.args in
    let n = none (goal.at.returns-in_err-place c).In_err-place in
    let absent = subst (Finds a.routine.now.bytes (vertex_at a.path.now a.i) (vertex_at a.path.now (a.i + 1))) n (seen (goal.at.returns-in_err-place c).After-find-found) in
    let made = sym (ap (λ (o : Option ℕ). ok_or o (NoSuchEdge (a.i + 1))) n) ∙ sym c.ok_or.ensures.value ∙ c.in_err-place.was in
    let e = exits c.from_residual.ensures in
    record {
      value = e ∙ ap Err (refusal_is (sym made)) ∙ no_arrival a.routine.now.bytes a.path.now a.i absent;
      taken_after = λ f. absurd (never e f);
    }

-- the edge that is passed
passed : (c : In_ok-place) →
    let a = c.args in
    let p = c.in_ok-place.place in
    (p < edges a.routine.now.bytes) × (joins a.routine.now.bytes (vertex_at a.path.now a.i) (vertex_at a.path.now (a.i + 1)) p ≡ true)
passed c =
    let a = c.args in
    subst (Finds a.routine.now.bytes (vertex_at a.path.now a.i) (vertex_at a.path.now (a.i + 1))) (c.ok_or.ensures.ok_part ∙ ap result_ok c.in_ok-place.was) (seen (goal.at.In_ok-place c).After-find-found)

-- its count is there, and small
room : (c : In_ok-place) → c.in_ok-place.place < length c.args.taken.now
room c =
    omega (arith, (passed c).0, counts-length c.args.routine.now.bytes c.args.path.now c.args.i c.args.routine.now.well c.requires.taken_value (passed c).0)

few : (c : In_ok-place) → get_or c.args.taken.now c.in_ok-place.place 0 < 4096
few c =
    omega (arith, count_at c.args.routine.now.bytes c.args.path.now c.args.i c.args.routine.now.well c.requires.taken_value (passed c).0, passes_few c.args.routine.now.bytes c.args.path.now c.args.i c.in_ok-place.place, c.requires.i_bound.1)

pub bounds-taken-place : goal.bounds-taken-place
bounds-taken-place c = room (goal.at.bounds-taken-place c).In_ok-place

pub overflow_add-taken : goal.overflow_add-taken
overflow_add-taken c = omega (arith, few (goal.at.overflow_add-taken c).In_ok-place)

pub bounds-taken-place-2 : goal.bounds-taken-place-2
bounds-taken-place-2 c = room (goal.at.bounds-taken-place-2 c).In_ok-place

pub returns : goal.returns
returns c =
    let p = passed (goal.at.returns c).In_ok-place in
    record {
      value = arrival c.args.routine.now.bytes c.args.path.now c.args.i p.0 p.1;
      taken_after = λ _. counts_next c.args.routine.now.bytes c.args.path.now c.args.i c.args.routine.now.well c.requires.taken_value p.0 p.1;
    }
