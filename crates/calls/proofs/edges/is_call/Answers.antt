-- `edges::is_call` meets its contract: the table says how many vertices v becomes.
use mathlib.Core.Path.{◌≡◌, ap₂, ◌∙◌}
use Prim.Native.Nat.{ℕ, ◌+◌}
use native.Mathlib.Omega.{arith}
use lib.Dec.{ltb}
use lib.ListN.{get_or}
use Rattle.calls.specs.Parts.{first_vertex_of}
use Rattle.calls.proofs.Written.{more_than_one}
use Rattle.calls.proofs.edges.is_call.Goals as goal
use Rattle.calls.proofs.edges.is_call.Goals.{Start}

-- the table has the first of v and that of the vertex behind it
module _ (s : Start) where
  first : get_or s.args.firsts.now s.args.v 0 ≡ first_vertex_of s.args.file.now s.args.v
  first = s.requires.firsts.are s.args.v (omega (arith, s.requires.v_bound))

  next : get_or s.args.firsts.now (s.args.v + 1) 0 ≡ first_vertex_of s.args.file.now (s.args.v + 1)
  next = s.requires.firsts.are (s.args.v + 1) (omega (arith, s.requires.v_bound))

pub returns : goal.returns
returns c = ap₂ (λ (x y : ℕ). ltb (x + 1) y) (first (goal.at.returns c).Start) (next (goal.at.returns c).Start) ∙ more_than_one c.args.file.now c.args.v
