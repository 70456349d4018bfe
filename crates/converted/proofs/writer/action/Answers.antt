-- `writer::action` meets its contract.
use mathlib.Core.Path.{◌≡◌, sym, ap₂, ◌∙◌}
use mathlib.Core.Bool.{true}
use Prim.Native.Nat.{ℕ, ◌+◌, ◌*◌, ◌<◌, ◌^◌}
use native.Mathlib.Omega.{arith}
use lib.ListN.{length, get_or}
use Rattle.directives.proofs.Limits.{read_limits}
use Rattle.flow.proofs.Cells.{in_cells}
use Rattle.mappings.specs.Computed.{given_set}
use Rattle.sets.proofs.Laws.{lowest_has, lowest_below}
use Rattle.sets.specs.Sets.{width, has}
use Rattle.converted.proofs.Actions.{stays, remaps}
use Rattle.converted.proofs.writer.action.Goals as goal
use Rattle.converted.proofs.writer.action.Goals.{After-lowest, Start}

-- the cell
abbrev place : Start → ℕ
place s = 8 * s.args.v + s.args.a

inside : (s : Start) → (place s < length s.args.given.now) × (place s < 2048)
inside s =
    let l = (read_limits s.args.directives.now) in
    omega (arith, in_cells l.few_arrays s.requires.a_bound s.requires.v_bound, s.requires.single.given_are.size, l.few_vertices)

holds : (s : Start) → get_or s.args.given.now (place s) 0 ≡ given_set s.args.directives.now.bytes s.args.a s.args.v
holds s = s.requires.single.given_are.cells s.args.a s.args.v s.requires.a_bound s.requires.v_bound

pub overflow_mul-at : goal.overflow_mul-at
overflow_mul-at c = omega (arith, inside (goal.at.overflow_mul-at c).Start)

pub overflow_add-at : goal.overflow_add-at
overflow_add-at c = omega (arith, inside (goal.at.overflow_add-at c).Start)

pub offset_bounds-given-at : goal.offset_bounds-given-at
offset_bounds-given-at c = omega (arith, inside (goal.at.offset_bounds-given-at c).Start)

pub bounds-given-at : goal.bounds-given-at
bounds-given-at c = (inside (goal.at.bounds-given-at c).Start).0

pub reference-requires : goal.reference-requires
reference-requires c =
    record {
      v_bound = c.requires.v_bound;
      a_bound = c.requires.a_bound;
    }

pub returns-in-0 : goal.returns-in-0
returns-in-0 c = c.reference.ensures ∙ stays c.args.directives.now.bytes c.args.a c.args.v (sym (holds (goal.at.returns-in-0 c).Start) ∙ c.in-0.is)

-- the lowest is in the set
chosen : (c : After-lowest) → (c.lowest.result < width) × (has (given_set c.args.directives.now.bytes c.args.a c.args.v) c.lowest.result ≡ true)
chosen c =
    let x = get_or c.args.given.now (place (goal.at.After-lowest c).Start) 0 in
    let some : 0 < x = omega arith in
    let small : x < 2 ^ width = omega (arith, c.type_inv.given (place (goal.at.After-lowest c).Start)) in
    (omega (arith, c.lowest.ensures, lowest_below width x some small), ap₂ has (sym (holds (goal.at.After-lowest c).Start)) c.lowest.ensures ∙ lowest_has width x some small)

pub overflow_add-result : goal.overflow_add-result
overflow_add-result c = omega (arith, (chosen c).0)

pub returns-in_default : goal.returns-in_default
returns-in_default c =
    let single = c.requires.single.one c.args.a c.args.v c.requires.a_bound c.requires.v_bound in
    remaps c.args.directives.now.bytes c.args.a c.args.v c.lowest.result single (chosen c).1
