-- `scan::fill_firsts` meets its contract. The invariant: `count` is the first of the vertices that v becomes, and the table is filled in for
-- each vertex before v. The measure is what is left.
use mathlib.Core.Path.{◌≡◌}
use Prim.Native.Nat.{◌≤◌}
use lib.ListN.{length}
use Rattle.words.proofs.Filling.{Filling}
use Rattle.calls.specs.Parts.{first_vertex_of}
use Rattle.calls.proofs.scan.fill_firsts.Given as goal

abbrev pub invariant-loop-v : goal.invariant-loop-v
invariant-loop-v l = (l.v ≤ l.n) × (l.count ≡ first_vertex_of l.routine.bytes l.v) × Filling (first_vertex_of l.routine.bytes) (length l.initial.firsts) l.initial.firsts l.firsts l.v
