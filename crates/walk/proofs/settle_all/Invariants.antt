-- `walk::settle_all` meets its contract: one array after the other.
use mathlib.Core.List.{List}
use Prim.Native.Nat.{ℕ}
use lib.ListN.{get_or}
use Rattle.report.specs.Bytes.{carried_of}
use Rattle.state.specs.Carrying.{carrying}
use Rattle.state.specs.declared.Carried.{Carried}
use Rattle.words.proofs.Replaced.{Replacing}
use Rattle.walk.proofs.settle_all.Given as goal

-- an array's state with its stamp in it
abbrev pub settled_at : List ℕ → List Carried → ℕ → Carried
settled_at stamps states b = carrying (get_or stamps b 0) (carried_of states b)

abbrev pub invariant-loop-a : goal.invariant-loop-a
invariant-loop-a l = Replacing l.initial.new 0 (settled_at l.stamps l.initial.new) l.m l.new l.a
