-- `is_entry_or_exit` meets its contract: the header's vertices are the file's.
use mathlib.Core.Path.{ap}
use mathlib.Core.Bool.{◌||◌}
use Prim.Native.Nat.{ℕ, ◌-◌}
use lib.Dec.{eqb}
use Rattle.directives.proofs.vertex.is_entry_or_exit.Goals as goal

pub returns : goal.returns
returns c = ap (λ (n : ℕ). eqb c.args.v 0 || eqb c.args.v (n - 1)) c.vertices.ensures
