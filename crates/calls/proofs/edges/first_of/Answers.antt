-- `edges::first_of` meets its contract: the table has it.
use mathlib.Core.Path.{◌≡◌}
use Prim.Native.Nat.{◌≤◌}
use native.Mathlib.Omega.{arith}
use lib.ListN.{get_or}
use Rattle.calls.specs.Parts.{first_vertex_of}
use Rattle.calls.proofs.Written.{firsts_few}
use Rattle.calls.proofs.edges.first_of.Goals as goal
use Rattle.calls.proofs.edges.first_of.Goals.{Start}

is : (s : Start) → get_or s.args.firsts.now s.args.v 0 ≡ first_vertex_of s.args.routine.now.bytes s.args.v
is s = s.requires.firsts.are s.args.v s.requires.v_bound

few : (s : Start) → get_or s.args.firsts.now s.args.v 0 ≤ 256
few s = omega (arith, is s, firsts_few s.args.routine.now.bytes s.requires.file_bound s.args.v s.requires.v_bound)

pub overflow_cast-result : goal.overflow_cast-result
overflow_cast-result c = record { fits = omega (arith, few (goal.at.overflow_cast-result c).Start) }

pub returns : goal.returns
returns c =
    record {
      value = is (goal.at.returns c).Start;
      upper_bound = few (goal.at.returns c).Start;
    }
