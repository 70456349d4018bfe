-- `falls` meets its contract.
use mathlib.Core.Path.{ap₂}
use lib.Dec.{ltb}
use Rattle.order.proofs.rising.falls.Goals as goal

pub returns : goal.returns
returns c = ap₂ ltb c.at.ensures c.at-2.ensures
