-- `given::is_brought` meets its contract: the bit of vertex u stands in column u / width.
use mathlib.Core.Path.{◌≡◌, ap, ◌∙◌}
use Prim.Native.Nat.{ℕ, ◌+◌, ◌*◌, ◌/◌, ◌%◌, ◌<◌}
use native.Mathlib.Omega.{arith}
use lib.ListN.{get_or}
use Rattle.directives.proofs.Limits.{read_limits}
use Rattle.mappings.proofs.Facts.{spread_column_lem}
use Rattle.mappings.proofs.Formed.{formed}
use Rattle.mappings.specs.Computed.{spread_sets}
use Rattle.sets.specs.Sets.{width, has}
use Rattle.numbering.proofs.given.is_brought.Goals as goal
use Rattle.numbering.proofs.given.is_brought.Goals.{Start}

few : (s : Start) → s.args.u < 256
few s = omega (arith, (read_limits s.args.directives.now).few_vertices)

-- the bit in the table
bit_is : (s : Start) → has (get_or s.args.spreads.now (8 * s.args.v + s.args.u / width) 0) (s.args.u % width) ≡ has (get_or (spread_sets s.args.directives.now.bytes s.args.x.template) s.args.v 0) s.args.u
bit_is s =
    let file = s.args.directives.now.bytes in
    let u = s.args.u in
    let whole : width * (u / width) + u % width ≡ u = omega arith in
    ap (λ (m : ℕ). has m (u % width)) (s.requires.spreads.cells s.args.v s.args.a (u / width) s.args.x s.requires.v_bound (omega (arith, few s)) s.requires.v_value)
    ∙ spread_column_lem (formed file s.args.directives.now.passed) s.args.x.template s.args.v (u / width) (u % width) (omega arith)
    ∙ ap (has (get_or (spread_sets file s.args.x.template) s.args.v 0)) whole

pub bounds-spreads-at : goal.bounds-spreads-at
bounds-spreads-at c = omega (arith, few (goal.at.bounds-spreads-at c).Start, c.requires.spreads.size)

pub returns : goal.returns
returns c = c.member.ensures ∙ bit_is (goal.at.returns c).Start
