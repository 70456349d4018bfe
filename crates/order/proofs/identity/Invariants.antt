-- `order::identity` meets its contract: a table is filled.
use Prim.Native.Nat.{◌-◌}
use Rattle.words.proofs.Filling.{Filling}
use Rattle.order.proofs.identity.Given as goal

abbrev pub invariant-loop-j : goal.invariant-loop-j
invariant-loop-j l = Filling (λ i. i) l.j-end l.initial.t l.t l.j
