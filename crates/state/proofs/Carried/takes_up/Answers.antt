-- `Carried::takes_up` meets its contract.
use Rattle.state.proofs.Carried.takes_up.Goals as goal

pub returns : goal.returns
returns c = rw c.is_kept.ensures
