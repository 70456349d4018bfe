-- `vertex::place` meets its contract: the vertex stands within the longest file.
use mathlib.Core.Path.{◌≡◌, ap}
use Prim.Native.Nat.{ℕ, ◌+◌, ◌*◌, ◌≤◌}
use native.Mathlib.Omega.{arith}
use Rattle.directives.specs.Layout.{arrays, vertex_at, longest}
use Rattle.directives.proofs.Places.{vertex_place}
use Rattle.directives.proofs.vertex.place.Goals as goal
use Rattle.directives.proofs.vertex.place.Goals.{After-arrays}

-- its place, and the bound
stands : (c : After-arrays) →
    let file = c.args.laid.now.bytes in
    (c.vertices_at.result + c.args.v * (12 + c.arrays.result) ≡ vertex_at file c.args.v) × (vertex_at file c.args.v + 12 + arrays file ≤ longest)
stands c =
    omega (
      arith,
      c.vertices_at.ensures,
      ap (λ (n : ℕ). c.args.v * (12 + n)) c.arrays.ensures,
      vertex_place c.args.laid.now.limits c.requires,
    )

pub overflow_mul-result : goal.overflow_mul-result
overflow_mul-result c = omega (arith, stands (goal.at.overflow_mul-result c).After-arrays)

pub overflow_add-result-2 : goal.overflow_add-result-2
overflow_add-result-2 c = omega (arith, stands (goal.at.overflow_add-result-2 c).After-arrays)

pub returns : goal.returns
returns c =
    record {
      value = (stands (goal.at.returns c).After-arrays).0;
      file_bound = omega (arith, stands (goal.at.returns c).After-arrays);
    }
